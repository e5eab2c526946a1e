-- The running total: where it is there, it stands for the total of the elements' numbers.
use Rattle.std.proofs.Common.{◌≡◌, ℕ, zero, suc, true, List, [], ◌∷◌, take, ℤ, pos, ◌+ℤ◌, Some, None, Option, sym, refl, ap, ◌∙◌}
use Rattle.std.proofs.lemmas.Bool.{false≢true}
use lib.IntN.{+ℤ_idl, +ℤ_idr, +ℤ_assoc}
use Rattle.rules.specs.Column.{Column, SumLaws, Adds}
use Rattle.rules.specs.Rows.{number_total}
use Rattle.rules.specs.Claims.{some?}
use Rattle.stat_bound.specs.Bounds.{Says, Always}
use Rattle.rules.specs.Truth.{Tells}
use Rattle.rules.specs.Merging.{exactly}
use Rattle.rules.specs.Counting.{summed, RunningFits}
use Rattle.rules.proofs.Telling.{tells_by}

module _ {V S : Type 0} (k : Column V S) where
  -- a total lost stays lost
  pub summed_lost : (vs : List V) → summed k None vs ≡ None
  summed_lost [] = refl
  summed_lost (v ∷ vs) = refl

module _ {V S : Type 0} (k : Column V S) (laws : SumLaws k.sums) where
  -- s with the numbers of vs added
  abbrev pub onward : S → List V → ℤ
  onward s vs = k.sums.total s +ℤ number_total k.sums.number vs

  -- one step: a sum that is there stands for the sum with the element's number added
  onward_step : (s u : S) (v : V) (vs : List V) → k.sums.total u ≡ k.sums.total s +ℤ k.sums.total (k.sums.single v) → onward u vs ≡ onward s (v ∷ vs)
  onward_step s u v vs e = rw (e, laws.one v, +ℤ_assoc)

  pub summed_said : (s : S) (vs : List V) → Says (λ t. k.sums.total t ≡ onward s vs) Always (exactly (summed k (Some s) vs))
  summed_said s [] = sym (+ℤ_idr (k.sums.total s))
  summed_said s (v ∷ vs) = step (k.sums.plus s (k.sums.single v)) (laws.adds s (k.sums.single v)) (λ u. summed_said u vs)
    where
      step : (o : Option S) → Adds k.sums.total s (k.sums.single v) o → ((u : S) → Says (λ t. k.sums.total t ≡ onward u vs) Always (exactly (summed k (Some u) vs))) → Says (λ t. k.sums.total t ≡ onward s (v ∷ vs)) Always (exactly (summed k o vs))
      step (Some u) e more = rw (onward_step s u v vs e) at (more u)
      step None e more = rw (summed_lost k vs) tt

  -- from the zero
  onward_zero : (vs : List V) → onward k.sums.zero vs ≡ number_total k.sums.number vs
  onward_zero vs = ap (λ z. z +ℤ number_total k.sums.number vs) laws.none ∙ +ℤ_idl (number_total k.sums.number vs)

  pub total_said : (vs : List V) → Says (λ t. k.sums.total t ≡ number_total k.sums.number vs) Always (exactly (summed k (Some k.sums.zero) vs))
  total_said vs = rw (onward_zero vs) at (summed_said k.sums.zero vs)

-- The running total is there exactly if every running total has a sum.
abbrev Held : {V S : Type 0} → Column V S → ℤ → Type 0
Held {V} {S} k n = (t : S) × (k.sums.total t ≡ n)

abbrev FitsFrom : {V S : Type 0} → Column V S → S → List V → Type 0
FitsFrom k s vs = (n : ℕ) → Held k (k.sums.total s +ℤ number_total k.sums.number (take n vs))

held_at : {V S : Type 0} (k : Column V S) {m n : ℤ} → m ≡ n → Held k m → Held k n
held_at k e h = (h.0, h.1 ∙ e)

module _ {V S : Type 0} (k : Column V S) (laws : SumLaws k.sums) where
  fits_none : (s : S) → Held k (k.sums.total s +ℤ pos 0)
  fits_none s = (s, sym (+ℤ_idr (k.sums.total s)))

  fits_nothing : (s : S) → FitsFrom k s []
  fits_nothing s zero = fits_none s
  fits_nothing s (suc n) = fits_none s

  fits_step : (s u : S) (v : V) (vs : List V) → k.sums.total u ≡ k.sums.total s +ℤ k.sums.total (k.sums.single v) → FitsFrom k u vs → FitsFrom k s (v ∷ vs)
  fits_step s u v vs e f zero = fits_none s
  fits_step s u v vs e f (suc n) = held_at k (onward_step k laws s u v (take n vs) e) (f n)

  fits_rest : (s u : S) (v : V) (vs : List V) → k.sums.total u ≡ k.sums.total s +ℤ k.sums.total (k.sums.single v) → FitsFrom k s (v ∷ vs) → FitsFrom k u vs
  fits_rest s u v vs e f n = held_at k (sym (onward_step k laws s u v (take n vs) e)) (f (suc n))

  -- the next running total has a sum, so adding gives one
  fits_next : (s : S) (v : V) (vs : List V) → FitsFrom k s (v ∷ vs) → Held k (k.sums.total s +ℤ k.sums.total (k.sums.single v))
  fits_next s v vs f = held_at k (ap (λ n. k.sums.total s +ℤ n) (+ℤ_idr (k.sums.number v) ∙ sym (laws.one v))) (f 1)

  pub summed_fits : (s : S) (vs : List V) → some? (summed k (Some s) vs) ≡ true → FitsFrom k s vs
  summed_fits s [] h = fits_nothing s
  summed_fits s (v ∷ vs) h = step (k.sums.plus s (k.sums.single v)) (laws.adds s (k.sums.single v)) (λ u. summed_fits u vs) h
    where
      step : (o : Option S) → Adds k.sums.total s (k.sums.single v) o → ((u : S) → some? (summed k (Some u) vs) ≡ true → FitsFrom k u vs) → some? (summed k o vs) ≡ true → FitsFrom k s (v ∷ vs)
      step (Some u) e more h = fits_step s u v vs e (more u h)
      step None e more h = absurd (false≢true (sym (ap some? (summed_lost k vs)) ∙ h))

  pub fits_summed : (s : S) (vs : List V) → FitsFrom k s vs → some? (summed k (Some s) vs) ≡ true
  fits_summed s [] f = refl
  fits_summed s (v ∷ vs) f = step (k.sums.plus s (k.sums.single v)) (laws.adds s (k.sums.single v)) (λ u. fits_summed u vs)
    where
      step : (o : Option S) → Adds k.sums.total s (k.sums.single v) o → ((u : S) → FitsFrom k u vs → some? (summed k (Some u) vs) ≡ true) → some? (summed k o vs) ≡ true
      step (Some u) e more = more u (fits_rest s u v vs e f)
      step None e more = let next = fits_next s v vs f in absurd (e next.0 next.1)

  pub running_told : (vs : List V) → Tells (RunningFits k vs) (some? (summed k (Some k.sums.zero) vs))
  running_told vs =
      tells_by (some? (summed k (Some k.sums.zero) vs))
      (λ h n. held_at k (onward_zero k laws (take n vs)) (summed_fits k.sums.zero vs h n))
      (λ f. fits_summed k.sums.zero vs (λ n. held_at k (sym (onward_zero k laws (take n vs))) (f n)))
