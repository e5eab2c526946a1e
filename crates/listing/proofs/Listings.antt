-- A loop that pushes what passes, where there is room for all.
use Rattle.std.proofs.Common.{◌≡◌, ℕ, ◌+◌, ◌<◌, ◌≤◌, Bool, true, false, cond, ltb, List, [], ◌∷◌, ◌++◌, length, get_or, take, filter, sym, ap, ◌∙◌, append-nil, arith, length-take}
use Rattle.std.proofs.lemmas.Bool.{cond-true, cond-false, lt-ltb}
use Rattle.std.proofs.lemmas.List.Elements.{filter_more}
use Rattle.std.proofs.lemmas.List.Sums.{length-filter, count_by-le-length}
use Rattle.listing.specs.declared.Listing.{Listing}
use Rattle.listing.specs.Listed.{listed}

pub listed_few : {T : Type 0} (l : Listing T) → length (listed l) ≤ 9
listed_few l = simp length-take (omega (arith, l.fits))

-- ys are those of the first i that passed
module _ {T : Type 0} (p : T → Bool) (xs : List T) (cap : ℕ) (few : length xs ≤ cap) (i : ℕ) (d : T) (within : i < length xs) (ys : List T) (before : ys ≡ filter p (take i xs)) where
  room : length ys < cap
  room = omega (arith, ap length before, length-filter p (take i xs), count_by-le-length p (take i xs), length-take i xs)

  more : filter p (take (i + 1) xs) ≡ ys ++ cond (p (get_or xs i d)) (get_or xs i d ∷ []) []
  more = filter_more p xs i d within ∙ ap (λ l. l ++ cond (p (get_or xs i d)) (get_or xs i d ∷ []) []) (sym before)

  pub pushed_kept : p (get_or xs i d) ≡ true → cond (ltb (length ys) cap) (ys ++ (get_or xs i d ∷ [])) ys ≡ filter p (take (i + 1) xs)
  pushed_kept passes = cond-true (ltb (length ys) cap) _ _ (lt-ltb (length ys) cap room) ∙ ap (λ l. ys ++ l) (sym (cond-true (p (get_or xs i d)) _ [] passes)) ∙ sym more

  pub passed_over : p (get_or xs i d) ≡ false → ys ≡ filter p (take (i + 1) xs)
  passed_over fails = sym (append-nil ys) ∙ ap (λ l. ys ++ l) (sym (cond-false (p (get_or xs i d)) _ [] fails)) ∙ sym more
