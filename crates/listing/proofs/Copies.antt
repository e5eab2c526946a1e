-- A listing whose entries are clones of another's, where a clone is the same value: it is the same listing.
use Rattle.std.proofs.Common.{◌≡◌, ℕ, zero, suc, ◌<◌, ◌≤◌, List, [], ◌∷◌, length, get_or, sym, refl, ap, ◌∙◌, subst, arith, ext_get_or}
use Rattle.std.proofs.Math.Bridge.{le_prop}
use Rattle.listing.specs.declared.Listing.{Listing}
use Rattle.listing.specs.Tables.{AtEach}

module _ {T : Type 0} where
  -- a listing by its parts
  abbrev made : (xs : List T) (n : ℕ) → n ≤ 9 → Listing T
  made xs n h = record { items = xs; len = n; fits = h }

  same_made : (xs ys : List T) (m n : ℕ) (h : m ≤ 9) (k : n ≤ 9) → ys ≡ xs → n ≡ m → made ys n k ≡ made xs m h
  same_made xs ys m n h k e f =
      subst (λ u. (l : u ≤ 9) → made ys n k ≡ made xs u l) f (λ l. ap (λ zs. made zs n k) e ∙ ap (made xs n) (le_prop k l)) h

  same_listing : (x y : Listing T) → y.items ≡ x.items → y.len ≡ x.len → y ≡ x
  same_listing x y e f = same_made x.items y.items x.len y.len x.fits y.fits e f

below_nine : (P : ℕ → Type 0) → P 0 → P 1 → P 2 → P 3 → P 4 → P 5 → P 6 → P 7 → P 8 → (i : ℕ) → i < 9 → P i
below_nine P a b c d e f g h k zero l = a
below_nine P a b c d e f g h k (suc zero) l = b
below_nine P a b c d e f g h k (suc (suc zero)) l = c
below_nine P a b c d e f g h k (suc (suc (suc zero))) l = d
below_nine P a b c d e f g h k (suc (suc (suc (suc zero)))) l = e
below_nine P a b c d e f g h k (suc (suc (suc (suc (suc zero))))) l = f
below_nine P a b c d e f g h k (suc (suc (suc (suc (suc (suc zero)))))) l = g
below_nine P a b c d e f g h k (suc (suc (suc (suc (suc (suc (suc zero))))))) l = h
below_nine P a b c d e f g h k (suc (suc (suc (suc (suc (suc (suc (suc zero)))))))) l = k
below_nine P a b c d e f g h k (suc (suc (suc (suc (suc (suc (suc (suc (suc n))))))))) l = absurd (omega (arith, l))

module _ {T : Type 0} (R : T → T → Type 0) (same : (a b : T) → R a b → b ≡ a) where
  same_items : (d : T) (xs ys : List T) → AtEach R xs ys → length ys ≡ length xs → length xs ≡ 9 → ys ≡ xs
  same_items d xs ys (a, b, c, e, f, g, h, j, k) long nine =
      ext_get_or d ys xs long
      (λ i l. below_nine (λ n. get_or ys n d ≡ get_or xs n d) (at 0 (a d)) (at 1 (b d)) (at 2 (c d)) (at 3 (e d)) (at 4 (f d)) (at 5 (g d)) (at 6 (h d)) (at 7 (j d)) (at 8 (k d)) i (omega (arith, l, long, nine)))
    where
      at : (n : ℕ) → R (get_or xs n d) (get_or ys n d) → get_or ys n d ≡ get_or xs n d
      at n r = same (get_or xs n d) (get_or ys n d) r

  same_table : (xs ys : List T) → AtEach R xs ys → length ys ≡ length xs → length xs ≡ 9 → ys ≡ xs
  same_table [] ys r long nine = absurd (omega (arith, nine))
  same_table (x ∷ xs) ys r long nine = same_items x (x ∷ xs) ys r long nine

  same_copy : (x y : Listing T) → AtEach R x.items y.items → length y.items ≡ length x.items → length x.items ≡ 9 → y.len ≡ x.len → y ≡ x
  same_copy x y r long nine e = same_listing x y (same_table x.items y.items r long nine) e

-- the entry at a place within, whatever is put for one past the end
within : {T : Type 0} (xs : List T) (n : ℕ) (d e : T) → n < length xs → get_or xs n d ≡ get_or xs n e
within [] n d e l = absurd (omega (arith, l))
within (x ∷ xs) zero d e l = refl
within (x ∷ xs) (suc n) d e l = within xs n d e (omega (arith, l))

-- what the clone of a listing owes, from the clones of its entries
module _ {T : Type 0} (R : T → T → Type 0) (x : Listing T) (nine : length x.items ≡ 9) (fits : x.len ≤ 9) where
  abbrev at : ℕ → T → Type 0
  at n v = (e : T) × R (get_or x.items n e) v

  each : (n : ℕ) (v : T) → n < 9 → at n v → (d : T) → R (get_or x.items n d) v
  each n v l p d = subst (λ u. R u v) (within x.items n p.0 d (omega (arith, l, nine))) p.1

  pub copied : (a b c d e f g h i : T) → at 0 a → at 1 b → at 2 c → at 3 d → at 4 e → at 5 f → at 6 g → at 7 h → at 8 i → AtEach R x.items (a ∷ b ∷ c ∷ d ∷ e ∷ f ∷ g ∷ h ∷ i ∷ []) × (9 ≡ length x.items) × (x.len ≡ x.len) × (((v w : T) → R v w → w ≡ v) → made (a ∷ b ∷ c ∷ d ∷ e ∷ f ∷ g ∷ h ∷ i ∷ []) x.len fits ≡ x)
  copied a b c d e f g h i p q r s t u v w z =
      let all : AtEach R x.items (a ∷ b ∷ c ∷ d ∷ e ∷ f ∷ g ∷ h ∷ i ∷ []) = (each 0 a (omega arith) p, each 1 b (omega arith) q, each 2 c (omega arith) r, each 3 d (omega arith) s, each 4 e (omega arith) t, each 5 f (omega arith) u, each 6 g (omega arith) v, each 7 h (omega arith) w, each 8 i (omega arith) z) in (
        all,
        sym nine,
        refl,
        λ same. same_copy R same x (made (a ∷ b ∷ c ∷ d ∷ e ∷ f ∷ g ∷ h ∷ i ∷ []) x.len fits) all (sym nine) nine refl,
      )
