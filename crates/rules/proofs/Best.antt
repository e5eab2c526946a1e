-- The best of a list by a strict test: it stands in the list, and none lies ahead of it.
use Rattle.std.proofs.Common.{◌≡◌, Bool, true, false, cond, List, [], ◌∷◌, Some, refl}
use Rattle.std.proofs.lemmas.Bool.{cond_both}
use Rattle.rules.specs.Rows.In.{here, later}
use Rattle.rules.specs.Rows.{In, Every}
use Rattle.stat_bound.specs.Bounds.{Says}
use Rattle.rules.specs.Merging.{exactly}
use Rattle.rules.specs.Counting.{best}
use Rattle.order.proofs.Orders.{Strict}

-- the one of the two that lies ahead
abbrev pub first : {V : Type 0} → (V → V → Bool) → V → V → V
first ahead x y = cond (ahead x y) x y

-- none of the list lies ahead of v
abbrev pub NoneAhead : {V : Type 0} → (V → V → Bool) → List V → V → Type 0
NoneAhead ahead vs v = Every (λ x. ahead x v ≡ false) vs

-- and v is in the list
abbrev pub Leads : {V : Type 0} → (V → V → Bool) → List V → V → Type 0
Leads ahead vs v = In v vs × NoneAhead ahead vs v

-- what stands in a list with one of two stands in the list with both
in_both : {V : Type 0} (x y v : V) (b : Bool) (vs : List V) → In v (cond b x y ∷ vs) → In v (x ∷ y ∷ vs)
in_both x y v true vs here = here
in_both x y v true vs (later i) = later (later i)
in_both x y v false vs i = later i

module _ {V : Type 0} (ahead behind : V → V → Bool) (strict : Strict ahead behind) where
  -- neither of the two lies ahead of the one picked
  pub first_over_left : (x y : V) → ahead x (first ahead x y) ≡ false
  first_over_left x y = cond_both (ahead x y) x y (λ v. ahead x v ≡ false) (λ e. strict.itself x) (λ e. e)

  pub first_over_right : (x y : V) → ahead y (first ahead x y) ≡ false
  first_over_right x y = cond_both (ahead x y) x y (λ v. ahead y v ≡ false) (λ e. strict.one_way x y e) (λ e. strict.itself y)

  pub best_leads : (x : V) (vs : List V) → (v : V) × (best (first ahead) (x ∷ vs) ≡ Some v) × Leads ahead (x ∷ vs) v
  best_leads x [] = (x, refl, (here, (strict.itself x, tt)))
  best_leads x (y ∷ vs) =
      let (v, e, (i, (h, hs))) = best_leads (first ahead x y) vs in (
        v,
        e,
        (
          in_both x y v (ahead x y) vs i,
          (strict.through x (first ahead x y) v (first_over_left x y) h, (strict.through y (first ahead x y) v (first_over_right x y) h, hs)),
        ),
      )

  -- so it is what an exact claim says; with no element there is no claim
  pub best_said : (inexact : V → Type 0) (vs : List V) → Says (Leads ahead vs) inexact (exactly (best (first ahead) vs))
  best_said inexact [] = tt
  best_said inexact (x ∷ vs) = let b = best_leads x vs in rw b.1 b.2
