-- Chains along a function that gives each record's next: what a write of one next leaves linked, and what it links.
use Rattle.std.proofs.Common.{◌≡◌, ℕ, ◌≤◌, List, [], ◌∷◌, ◌++◌, drop, sym, refl, ap, ◌∙◌, subst, inl, inr, arith}
use Rattle.std.proofs.lemmas.List.{append_assoc}
use Rattle.std.proofs.lemmas.Bool.{cases_eq}
use Rattle.rules.specs.Rows.{Every}
use Rattle.book.specs.Chains.{ChainFrom, occurs}
use Rattle.book.proofs.Occurs.{counts_itself, counts_other}

-- a number that a list does not hold is none of its elements
pub absent_from : (x : ℕ) (xs : List ℕ) → occurs x xs ≡ 0 → Every (λ y. y ≡ x → ⊥) xs
absent_from x [] e = tt
absent_from x (y ∷ ys) e =
    elim (cases_eq x y) [
      | inl h ↦ absurd (let o = counts_itself x in omega (arith, subst (λ z. occurs x (z ∷ ys) ≡ 0) (sym h) e))
      | inr ne ↦ let o = counts_other x y ne in ((λ q. ne (sym q)), absent_from x ys (omega arith))
    ]

occurs_rest : (x : ℕ) (xs : List ℕ) → occurs x (drop 1 xs) ≤ occurs x xs
occurs_rest x [] = omega arith
occurs_rest x (y ∷ ys) = omega arith

module _ (next : ℕ → ℕ) where
  -- a walk along the chain: zero ends it, and any other next goes on
  pub chain_ends : (n : ℕ) (ns : List ℕ) → n ≡ 0 → ChainFrom next n ns → ns ≡ []
  chain_ends n [] z c = refl
  chain_ends n (m ∷ ms) z c = absurd (omega (arith, c.0, c.1))

  pub chain_goes_on : (n : ℕ) (ns : List ℕ) → (n ≡ 0 → ⊥) → ChainFrom next n ns → (ms : List ℕ) × (ns ≡ n ∷ ms) × ChainFrom next (next n) ms
  chain_goes_on n [] nz c = absurd (nz c)
  chain_goes_on n (m ∷ ms) nz c = (ms, ap (λ k. k ∷ ms) (sym c.0), subst (λ k. ChainFrom next (next k) ms) (sym c.0) c.2)

  -- a number begins at most one chain
  pub chain_unique : (n : ℕ) (xs ys : List ℕ) → ChainFrom next n xs → ChainFrom next n ys → xs ≡ ys
  chain_unique n [] ys c d = sym (chain_ends n ys c d)
  chain_unique n (x ∷ xs) [] c d = absurd (omega (arith, c.0, c.1, d))
  chain_unique n (x ∷ xs) (y ∷ ys) c d =
      let e : x ≡ y = sym c.0 ∙ d.0 in
      cc (e, chain_unique (next x) xs ys c.2 (subst (λ k. ChainFrom next (next k) ys) (sym e) d.2))

  -- what follows a record in a chain is its next
  pub follows : (n : ℕ) (ns : List ℕ) (m : ℕ) → 1 ≤ occurs m ns → ChainFrom next n ns → 1 ≤ next m → 1 ≤ occurs (next m) (drop 1 ns)
  follows n [] m o c p = absurd (omega arith)
  follows n (x ∷ xs) m o c p =
      elim (cases_eq m x) [
        | inl e ↦
            let g = chain_goes_on (next m) xs (omega arith) (subst (λ k. ChainFrom next (next k) xs) (sym e) c.2) in
            rw g.1 (let i = counts_itself (next m) in omega arith)
        | inr ne ↦
            let i = counts_other m x ne in
            let r = follows (next x) xs m (omega arith) c.2 p in
            omega (arith, occurs_rest (next m) xs)
      ]

  -- and what does not begin a chain follows a record of it
  pub followed : (n : ℕ) (ns : List ℕ) (m : ℕ) → 1 ≤ occurs m ns → ChainFrom next n ns → (m ≡ n → ⊥) → (l : ℕ) × (1 ≤ occurs l ns) × (next l ≡ m)
  followed n [] m o c ne = absurd (omega arith)
  followed n (x ∷ xs) m o c ne =
      let i = counts_other m x (λ e. ne (e ∙ sym c.0)) in
      elim (cases_eq m (next x)) [
        | inl e ↦ (x, (let j = counts_itself x in omega arith), sym e)
        | inr d ↦ let r = followed (next x) xs m (omega arith) c.2 d in (r.0, omega (arith, r.1), r.2)
      ]

  -- no record of a chain is its own next: the chain would not end
  pub no_loop : (n : ℕ) (ns : List ℕ) (m : ℕ) → 1 ≤ m → 1 ≤ occurs m ns → ChainFrom next n ns → next m ≡ m → ⊥
  no_loop n [] m low o c e = omega arith
  no_loop n (x ∷ xs) m low o c e =
      elim (cases_eq m x) [
        | inl h ↦
            let g = chain_goes_on m xs (omega arith) (subst (λ k. ChainFrom next k xs) e (subst (λ k. ChainFrom next (next k) xs) (sym h) c.2)) in
            no_loop (next x) xs m low (rw g.1 (let i = counts_itself m in omega arith)) c.2 e
        | inr ne ↦ let i = counts_other m x ne in no_loop (next x) xs m low (omega arith) c.2 e
      ]

module _ (next next' : ℕ → ℕ) where
  -- a chain all of whose records keep their next stays linked
  pub chain_kept : (n : ℕ) (ns : List ℕ) → Every (λ m. next' m ≡ next m) ns → ChainFrom next n ns → ChainFrom next' n ns
  chain_kept n [] h c = c
  chain_kept n (m ∷ ms) h c = (c.0, c.1, rw h.0 (chain_kept (next m) ms h.1 c.2))

  -- a chain whose last record gets the first of another as next is linked to that other
  pub chain_joined : (n : ℕ) (front : List ℕ) (l c : ℕ) (ys : List ℕ) → Every (λ m. next' m ≡ next m) front → next' l ≡ c → ChainFrom next n (front ++ (l ∷ [])) → ChainFrom next' c ys → ChainFrom next' n ((front ++ (l ∷ [])) ++ ys)
  chain_joined n [] l c ys h w p q = (p.0, p.1, rw w q)
  chain_joined n (m ∷ ms) l c ys h w p q = (p.0, p.1, rw h.0 (chain_joined (next m) ms l c ys h.1 w p.2 q))

-- A walk along a chain: what lies behind, the record reached, and what is ahead.
pub record Walk (next : ℕ → ℕ) (chain front : List ℕ) (at : ℕ) (ahead : List ℕ) : Type 0 where
  pub split : chain ≡ front ++ (at ∷ ahead)
  pub on : ChainFrom next (next at) ahead

module _ (next : ℕ → ℕ) (chain : List ℕ) where
  pub walk_begins : (n : ℕ) → 1 ≤ n → ChainFrom next n chain → (ahead : List ℕ) × Walk next chain [] n ahead
  walk_begins n low c = let g = chain_goes_on next n chain (omega arith) c in (g.0, record { split = g.1; on = g.2 })

  pub walk_goes_on : (front : List ℕ) (at : ℕ) (ahead : List ℕ) → (next at ≡ 0 → ⊥) → Walk next chain front at ahead → (more : List ℕ) × Walk next chain (front ++ (at ∷ [])) (next at) more
  walk_goes_on front at ahead nz w =
      let g = chain_goes_on next (next at) ahead nz w.on in
      (g.0, record { split = w.split ∙ ap (λ l. front ++ (at ∷ l)) g.1 ∙ sym (append_assoc front (at ∷ []) (next at ∷ g.0)); on = g.2 })

  pub walk_ends : (front : List ℕ) (at : ℕ) (ahead : List ℕ) → next at ≡ 0 → Walk next chain front at ahead → chain ≡ front ++ (at ∷ [])
  walk_ends front at ahead z w = w.split ∙ ap (λ l. front ++ (at ∷ l)) (chain_ends next (next at) ahead z w.on)
