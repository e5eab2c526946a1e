-- Zones by number, where the numbers rise: finding one, changing one, leaving one out.
use Rattle.std.proofs.Common.{◌≡◌, ℕ, ◌+◌, ◌<◌, ◌≤◌, true, false, cond, eqb, List, [], ◌∷◌, ◌++◌, Some, None, Option, sym, refl, ap, ◌∙◌, subst, inl, inr, arith}
use Rattle.std.specs.List.{flat_map}
use Rattle.std.proofs.lemmas.Bool.{eq-eqb, ne_eqb, cases_eq, cond-true, cond-false, true≢false, false≢true}
use Rattle.rules.specs.Rows.{Every}
use Rattle.book.specs.Book.{Zone, zone_of, with_zone, without_zone}
use Rattle.book.specs.Chains.{occurs}
use Rattle.book.specs.Sound.{RiseAbove}
use Rattle.rules.specs.Claims.{some?}
use Rattle.book.specs.Keeps.{is_live}
use Rattle.book.proofs.Occurs.{occurs_append}

module _ {V S : Type 0} where
  -- the three functions at a list's first zone, by whether its number is the one asked for
  pub zone_of_here : (n : ℕ) (z : Zone V S) (zs : List (Zone V S)) → n ≡ z.number → zone_of (z ∷ zs) n ≡ Some z
  zone_of_here n z zs e = cond-true (eqb n z.number) (Some z) (zone_of zs n) (eq-eqb n z.number e)

  pub zone_of_later : (n : ℕ) (z : Zone V S) (zs : List (Zone V S)) → (n ≡ z.number → ⊥) → zone_of (z ∷ zs) n ≡ zone_of zs n
  zone_of_later n z zs ne = cond-false (eqb n z.number) (Some z) (zone_of zs n) (ne_eqb n z.number ne)

  -- with_zone's first zone computes to this test, so that a proof rewrites by these two
  pub changed_here : (f : Zone V S → Zone V S) (n : ℕ) (z : Zone V S) → n ≡ z.number → cond (eqb n z.number) (f z) z ≡ f z
  changed_here f n z e = cond-true (eqb n z.number) (f z) z (eq-eqb n z.number e)

  pub changed_later : (f : Zone V S → Zone V S) (n : ℕ) (z : Zone V S) → (n ≡ z.number → ⊥) → cond (eqb n z.number) (f z) z ≡ z
  changed_later f n z ne = cond-false (eqb n z.number) (f z) z (ne_eqb n z.number ne)

  pub without_zone_here : (n : ℕ) (z : Zone V S) (zs : List (Zone V S)) → n ≡ z.number → without_zone n (z ∷ zs) ≡ without_zone n zs
  without_zone_here n z zs e = cond-true (eqb n z.number) (without_zone n zs) (z ∷ without_zone n zs) (eq-eqb n z.number e)

  pub without_zone_later : (n : ℕ) (z : Zone V S) (zs : List (Zone V S)) → (n ≡ z.number → ⊥) → without_zone n (z ∷ zs) ≡ z ∷ without_zone n zs
  without_zone_later n z zs ne = cond-false (eqb n z.number) (without_zone n zs) (z ∷ without_zone n zs) (ne_eqb n z.number ne)

  -- a number below all the zones' is none's
  pub rise_lower : (m n : ℕ) (zs : List (Zone V S)) → m ≤ n → RiseAbove n zs → RiseAbove m zs
  rise_lower m n [] le r = tt
  rise_lower m n (z ∷ zs) le r = (omega (arith, r.0), r.1)

  pub zone_of_below : (m n : ℕ) (zs : List (Zone V S)) → m ≤ n → RiseAbove n zs → zone_of zs m ≡ None
  zone_of_below m n [] le r = refl
  zone_of_below m n (z ∷ zs) le r = zone_of_later m z zs (omega (arith, r.0)) ∙ zone_of_below m z.number zs (omega (arith, r.0)) r.1

  pub with_zone_below : (f : Zone V S → Zone V S) (m n : ℕ) (zs : List (Zone V S)) → m ≤ n → RiseAbove n zs → with_zone f m zs ≡ zs
  with_zone_below f m n [] le r = refl
  with_zone_below f m n (z ∷ zs) le r = rw (changed_later f m z (omega (arith, r.0))) (ap (λ ys. z ∷ ys) (with_zone_below f m z.number zs (omega (arith, r.0)) r.1))

  pub without_zone_below : (m n : ℕ) (zs : List (Zone V S)) → m ≤ n → RiseAbove n zs → without_zone m zs ≡ zs
  without_zone_below m n [] le r = refl
  without_zone_below m n (z ∷ zs) le r = without_zone_later m z zs (omega (arith, r.0)) ∙ ap (λ ys. z ∷ ys) (without_zone_below m z.number zs (omega (arith, r.0)) r.1)

  -- the zone found has the number, and stands in the list
  pub some_same : (y z : Zone V S) → Some y ≡ Some z → y ≡ z
  some_same y z e = cc

  pub some_none : (z : Zone V S) → None ≡ Some z → ⊥
  some_none z e = let bad : ◌≡◌ {A = ℕ} 0 1 = cc in omega arith

  pub with_zone_none : (f : Zone V S → Zone V S) (n : ℕ) (zs : List (Zone V S)) → zone_of zs n ≡ None → with_zone f n zs ≡ zs
  with_zone_none f n [] e = refl
  with_zone_none f n (z ∷ zs) e =
      elim (cases_eq n z.number) [
        | inl h ↦ absurd (some_none z (sym e ∙ zone_of_here n z zs h))
        | inr ne ↦ rw (changed_later f n z ne) (ap (λ ys. z ∷ ys) (with_zone_none f n zs (sym (zone_of_later n z zs ne) ∙ e)))
      ]

  pub found_number : (n : ℕ) (z : Zone V S) (zs : List (Zone V S)) → zone_of zs n ≡ Some z → z.number ≡ n
  found_number n z [] e = absurd (some_none z e)
  found_number n z (y ∷ ys) e =
      elim (cases_eq n y.number) [
        | inl h ↦ let s = some_same y z (sym (zone_of_here n y ys h) ∙ e) in ap (λ x. x.number) (sym s) ∙ sym h
        | inr ne ↦ found_number n z ys (sym (zone_of_later n y ys ne) ∙ e)
      ]

  pub found_every : (P : Zone V S → Type 0) (n : ℕ) (z : Zone V S) (zs : List (Zone V S)) → zone_of zs n ≡ Some z → Every P zs → P z
  found_every P n z [] e h = absurd (some_none z e)
  found_every P n z (y ∷ ys) e h =
      elim (cases_eq n y.number) [
        | inl q ↦ subst P (some_same y z (sym (zone_of_here n y ys q) ∙ e)) h.0
        | inr ne ↦ found_every P n z ys (sym (zone_of_later n y ys ne) ∙ e) h.1
      ]

  -- each zone is the one found by its number
  pub each_found : (n : ℕ) (zs : List (Zone V S)) → RiseAbove n zs → Every (λ z. (n < z.number) × (zone_of zs z.number ≡ Some z)) zs
  each_found n [] r = tt
  each_found n (z ∷ zs) r = ((r.0, zone_of_here z.number z zs refl), over zs (each_found z.number zs r.1))
    where
      over : (ys : List (Zone V S)) → Every (λ y. (z.number < y.number) × (zone_of zs y.number ≡ Some y)) ys → Every (λ y. (n < y.number) × (zone_of (z ∷ zs) y.number ≡ Some y)) ys
      over [] h = tt
      over (y ∷ ys) h = ((omega (arith, r.0, h.0.0), zone_of_later y.number z zs (omega (arith, h.0.0)) ∙ h.0.1), over ys h.1)

  -- changing a zone, or leaving one out, keeps the numbers rising
  pub rise_with : (f : Zone V S → Zone V S) (same : (z : Zone V S) → (f z).number ≡ z.number) (m n : ℕ) (zs : List (Zone V S)) → RiseAbove n zs → RiseAbove n (with_zone f m zs)
  rise_with f same m n [] r = tt
  rise_with f same m n (z ∷ zs) r =
      elim (cases_eq m z.number) [
        | inl e ↦
            rw (changed_here f m z e)
            (omega (arith, r.0, same z), rw (same z) (rise_with f same m z.number zs r.1))
        | inr ne ↦ rw (changed_later f m z ne) (r.0, rise_with f same m z.number zs r.1)
      ]

  pub rise_without : (m n : ℕ) (zs : List (Zone V S)) → RiseAbove n zs → RiseAbove n (without_zone m zs)
  rise_without m n [] r = tt
  rise_without m n (z ∷ zs) r =
      elim (cases_eq m z.number) [
        | inl e ↦ rw (without_zone_here m z zs e) (rise_lower n z.number (without_zone m zs) (omega (arith, r.0)) (rise_without m z.number zs r.1))
        | inr ne ↦ rw (without_zone_later m z zs ne) (r.0, rise_without m z.number zs r.1)
      ]

  pub rise_push : (n : ℕ) (zs : List (Zone V S)) (y : Zone V S) → n < y.number → Every (λ z. z.number < y.number) zs → RiseAbove n zs → RiseAbove n (zs ++ (y ∷ []))
  rise_push n [] y h a r = (h, tt)
  rise_push n (z ∷ zs) y h a r = (r.0, rise_push z.number zs y a.0 a.1 r.1)

  -- what holds of every zone, after a zone was changed or left out
  pub every_with : (P Q : Zone V S → Type 0) (f : Zone V S → Zone V S) (n : ℕ) (zs : List (Zone V S)) → ((z : Zone V S) → (n ≡ z.number → ⊥) → P z → Q z) → ((z : Zone V S) → n ≡ z.number → P z → Q (f z)) → Every P zs → Every Q (with_zone f n zs)
  every_with P Q f n [] stay change h = tt
  every_with P Q f n (z ∷ zs) stay change h =
      elim (cases_eq n z.number) [
        | inl e ↦ rw (changed_here f n z e) (change z e h.0, every_with P Q f n zs stay change h.1)
        | inr ne ↦ rw (changed_later f n z ne) (stay z ne h.0, every_with P Q f n zs stay change h.1)
      ]

  pub every_without : (P : Zone V S → Type 0) (n : ℕ) (zs : List (Zone V S)) → Every P zs → Every P (without_zone n zs)
  every_without P n [] h = tt
  every_without P n (z ∷ zs) h =
      elim (cases_eq n z.number) [
        | inl e ↦ rw (without_zone_here n z zs e) (every_without P n zs h.1)
        | inr ne ↦ rw (without_zone_later n z zs ne) (h.0, every_without P n zs h.1)
      ]

  -- leaving out one zone leaves the others to be found
  pub zone_of_without : (a c : ℕ) (zs : List (Zone V S)) → (a ≡ c → ⊥) → zone_of (without_zone c zs) a ≡ zone_of zs a
  zone_of_without a c [] ne = refl
  zone_of_without a c (z ∷ zs) ne =
      elim (cases_eq c z.number) [
        | inl e ↦ rw (without_zone_here c z zs e) (zone_of_without a c zs ne ∙ sym (zone_of_later a z zs (λ h. ne (h ∙ sym e))))
        | inr d ↦ rw (without_zone_later c z zs d) (ap (λ o. cond (eqb a z.number) (Some z) o) (zone_of_without a c zs ne))
      ]

  pub zone_of_without_itself : (c : ℕ) (zs : List (Zone V S)) → zone_of (without_zone c zs) c ≡ None
  zone_of_without_itself c [] = refl
  zone_of_without_itself c (z ∷ zs) =
      elim (cases_eq c z.number) [
        | inl e ↦ rw (without_zone_here c z zs e) (zone_of_without_itself c zs)
        | inr d ↦ rw (without_zone_later c z zs d) (zone_of_later c z (without_zone c zs) d ∙ zone_of_without_itself c zs)
      ]

module _ {V S : Type 0} (g : Zone V S → List ℕ) where
  -- a change that keeps each part keeps the whole
  pub joined_with : (f : Zone V S → Zone V S) (n : ℕ) (zs : List (Zone V S)) → ((z : Zone V S) → g (f z) ≡ g z) → flat_map g (with_zone f n zs) ≡ flat_map g zs
  joined_with f n [] same = refl
  joined_with f n (z ∷ zs) same =
      let ih = joined_with f n zs same in
      elim (cases_eq n z.number) [
        | inl e ↦ rw (changed_here f n z e) (cc (ih, same z))
        | inr ne ↦ rw (changed_later f n z ne) (cc ih)
      ]

module _ {V S : Type 0} where
  -- changing a zone changes no other's being found
  pub live_with : (f : Zone V S → Zone V S) (same : (z : Zone V S) → (f z).number ≡ z.number) (a n : ℕ) (zs : List (Zone V S)) → is_live (with_zone f a zs) n ≡ is_live zs n
  live_with f same a n [] = refl
  live_with f same a n (z ∷ zs) =
      elim (cases_eq a z.number) [
        | inl e ↦ rw (changed_here f a z e) (live_same n (f z) z (with_zone f a zs) zs (same z) (live_with f same a n zs))
        | inr ne ↦ rw (changed_later f a z ne) (live_same n z z (with_zone f a zs) zs refl (live_with f same a n zs))
      ]
    where
      live_same : (n : ℕ) (y z : Zone V S) (ys zs : List (Zone V S)) → y.number ≡ z.number → is_live ys n ≡ is_live zs n → is_live (y ∷ ys) n ≡ is_live (z ∷ zs) n
      live_same n y z ys zs e h =
          elim (cases_eq n z.number) [
            | inl q ↦ ap some? (zone_of_here n y ys (q ∙ sym e)) ∙ sym (ap some? (zone_of_here n z zs q))
            | inr d ↦ ap some? (zone_of_later n y ys (λ q. d (q ∙ e))) ∙ h ∙ sym (ap some? (zone_of_later n z zs d))
          ]

  -- a zone put last is found, and so are those before
  pub live_push : (n : ℕ) (zs : List (Zone V S)) (y : Zone V S) → (n ≡ y.number → ⊥) → is_live (zs ++ (y ∷ [])) n ≡ is_live zs n
  live_push n [] y ne = ap some? (zone_of_later n y [] ne)
  live_push n (z ∷ zs) y ne =
      elim (cases_eq n z.number) [
        | inl q ↦ ap some? (zone_of_here n z (zs ++ (y ∷ [])) q) ∙ sym (ap some? (zone_of_here n z zs q))
        | inr d ↦ ap some? (zone_of_later n z (zs ++ (y ∷ [])) d) ∙ live_push n zs y ne ∙ sym (ap some? (zone_of_later n z zs d))
      ]

  pub live_last : (n : ℕ) (zs : List (Zone V S)) (y : Zone V S) → n ≡ y.number → is_live (zs ++ (y ∷ [])) n ≡ true
  live_last n [] y e = ap some? (zone_of_here n y [] e)
  live_last n (z ∷ zs) y e =
      elim (cases_eq n z.number) [
        | inl q ↦ ap some? (zone_of_here n z (zs ++ (y ∷ [])) q)
        | inr d ↦ ap some? (zone_of_later n z (zs ++ (y ∷ [])) d) ∙ live_last n zs y e
      ]

  -- the flag of a number says whether there is a zone to be found
  pub live_found : (n : ℕ) (zs : List (Zone V S)) → is_live zs n ≡ true → (z : Zone V S) × (zone_of zs n ≡ Some z)
  live_found n zs h = go (zone_of zs n) refl
    where
      go : (o : Option (Zone V S)) → zone_of zs n ≡ o → (z : Zone V S) × (zone_of zs n ≡ Some z)
      go (Some z) e = (z, e)
      go None e = absurd (false≢true (sym (ap some? e) ∙ h))

  pub live_not_found : (n : ℕ) (zs : List (Zone V S)) → is_live zs n ≡ false → zone_of zs n ≡ None
  live_not_found n zs h = go (zone_of zs n) refl
    where
      go : (o : Option (Zone V S)) → zone_of zs n ≡ o → zone_of zs n ≡ None
      go (Some z) e = absurd (true≢false (sym (ap some? e) ∙ h))
      go None e = e

  -- what holds of the zones but one, of each that is not that one
  pub every_elsewhere : (P : Zone V S → Type 0) (a : ℕ) (zs : List (Zone V S)) → Every P (without_zone a zs) → Every (λ z. (a ≡ z.number → ⊥) → P z) zs
  every_elsewhere P a [] h = tt
  every_elsewhere P a (z ∷ zs) h =
      elim (cases_eq a z.number) [
        | inl e ↦ ((λ ne. absurd (ne e)), every_elsewhere P a zs (rw (without_zone_here a z zs e) at h))
        | inr ne ↦
            let g : Every P (z ∷ without_zone a zs) = rw (without_zone_later a z zs ne) at h in
            ((λ d. g.0), every_elsewhere P a zs g.1)
      ]

-- Counting in what the zones have, joined: a zone left out takes its part away, a zone changed trades it.
module _ {V S : Type 0} (g : Zone V S → List ℕ) (x : ℕ) where
  pub occurs_without : (n c : ℕ) (y : Zone V S) (zs : List (Zone V S)) → RiseAbove n zs → zone_of zs c ≡ Some y → occurs x (flat_map g zs) ≡ occurs x (g y) + occurs x (flat_map g (without_zone c zs))
  occurs_without n c y [] r e = absurd (some_none y e)
  occurs_without n c y (z ∷ zs) r e =
      let p = occurs_append x (g z) (flat_map g zs) in
      elim (cases_eq c z.number) [
        | inl h ↦
            let s : z ≡ y = some_same z y (sym (zone_of_here c z zs h) ∙ e) in
            let w : without_zone c (z ∷ zs) ≡ zs = without_zone_here c z zs h ∙ without_zone_below c z.number zs (omega (arith, h)) r.1 in
            rw (w, ← s) p
        | inr d ↦
            let ih = occurs_without z.number c y zs r.1 (sym (zone_of_later c z zs d) ∙ e) in
            let q = occurs_append x (g z) (flat_map g (without_zone c zs)) in
            rw (without_zone_later c z zs d) (omega arith)
      ]

  pub occurs_with : (f : Zone V S → Zone V S) (n a : ℕ) (y : Zone V S) (zs : List (Zone V S)) → RiseAbove n zs → zone_of zs a ≡ Some y → occurs x (flat_map g (with_zone f a zs)) + occurs x (g y) ≡ occurs x (flat_map g zs) + occurs x (g (f y))
  occurs_with f n a y [] r e = absurd (some_none y e)
  occurs_with f n a y (z ∷ zs) r e =
      let p = occurs_append x (g z) (flat_map g zs) in
      elim (cases_eq a z.number) [
        | inl h ↦
            let s : z ≡ y = some_same z y (sym (zone_of_here a z zs h) ∙ e) in
            let q = occurs_append x (g (f z)) (flat_map g zs) in
            rw (changed_here f a z h, with_zone_below f a z.number zs (omega (arith, h)) r.1, ← s) (omega arith)
        | inr d ↦
            let ih = occurs_with f z.number a y zs r.1 (sym (zone_of_later a z zs d) ∙ e) in
            let q = occurs_append x (g z) (flat_map g (with_zone f a zs)) in
            rw (changed_later f a z d) (omega arith)
      ]

  -- one zone left out and its part put to another's: the count stays
  pub occurs_moved : (f : Zone V S → Zone V S) (n a c : ℕ) (z y : Zone V S) (zs : List (Zone V S)) → RiseAbove n zs → zone_of zs a ≡ Some z → zone_of zs c ≡ Some y → (a ≡ c → ⊥) → occurs x (g (f z)) ≡ occurs x (g z) + occurs x (g y) → occurs x (flat_map g (with_zone f a (without_zone c zs))) ≡ occurs x (flat_map g zs)
  occurs_moved f n a c z y zs r p q ne sum =
      let out = occurs_without n c y zs r q in
      let put = occurs_with f n a z (without_zone c zs) (rise_without c n zs r) (zone_of_without a c zs ne ∙ p) in
      omega arith
