-- What an intersection keeps. No law of the order is needed: it is one of its two sides, or there is none.
use Rattle.std.proofs.Common.{◌≡◌, Bool, false, cond, Some, None, Option, Ordering, refl, ap}
use Rattle.std.proofs.lemmas.Bool.{true≢false, cond-true, cond-false}
use Rattle.precision.specs.declared.precision.Precision.{Precision}
use Rattle.precision.specs.declared.precision.Precision.TheVariants.{Exact, Inexact, Absent}
use Rattle.stat_bound.specs.declared.IntersectionResult.{IntersectionResult}
use Rattle.stat_bound.specs.declared.IntersectionResult.TheVariants.{Value, Empty}
use Rattle.order.specs.Order.{OrderLaws, same, below, lesser}
use Rattle.order.proofs.Orders.{same_of}
use Rattle.precision.specs.Claims.{mapped, is_absent}
use Rattle.stat_bound.specs.Bounds.{Says, intersection_by, precision_intersection}
use Rattle.rules.specs.Combining.{met}
use Rattle.rules.proofs.Claims.{InSome}
use Rattle.rules.proofs.Sets.{cond_either}

-- what P says of the claim that an intersection gives, if any
abbrev pub InValue : {A : Type 0} → (A → Type 0) → Option (IntersectionResult A) → Type 0
InValue P (Some (Value c)) = P c
InValue P (Some Empty) = Unit {0}
InValue P None = Unit {0}

-- The intersection is one of its two sides, so what holds of both sides holds of it.
module _ {T : Type 0} (order : T → T → Ordering) (P : Precision T → Type 0) where
  -- Lower and Upper
  pub bound_kept : (ahead behind : T → T → Bool) (x y : Precision T) → P x → P y → InValue P (intersection_by order ahead behind x y)
  bound_kept ahead behind (Exact x) (Exact y) p q = cond_either (λ r. InValue P (Some r)) (same order x y) (Value (Exact x)) Empty p tt
  bound_kept ahead behind (Inexact x) (Inexact y) p q = cond_either (λ v. P (Inexact v)) (behind x y) x y p q
  bound_kept ahead behind (Exact e) (Inexact i) p q = cond_either (λ r. InValue P (Some r)) (ahead e i) Empty (Value (Exact e)) tt p
  bound_kept ahead behind (Inexact i) (Exact e) p q = cond_either (λ r. InValue P (Some r)) (ahead e i) Empty (Value (Exact e)) tt q
  bound_kept ahead behind (Exact x) Absent p q = tt
  bound_kept ahead behind (Inexact x) Absent p q = tt
  bound_kept ahead behind Absent (Exact y) p q = tt
  bound_kept ahead behind Absent (Inexact y) p q = tt
  bound_kept ahead behind Absent Absent p q = tt

  pub precision_kept : (x y : Precision T) → P x → P y → InValue P (precision_intersection order x y)
  precision_kept (Exact x) (Exact y) p q = cond_either (λ r. InValue P (Some r)) (same order x y) (Value (Exact x)) Empty p tt
  precision_kept (Inexact x) (Inexact y) p q = cond_either (λ v. P (Inexact v)) (below order x y) x y p q
  precision_kept (Exact e) (Inexact i) p q = p
  precision_kept (Inexact i) (Exact e) p q = q
  precision_kept (Exact x) Absent p q = tt
  precision_kept (Inexact x) Absent p q = tt
  precision_kept Absent (Exact y) p q = tt
  precision_kept Absent (Inexact y) p q = tt
  precision_kept Absent Absent p q = tt

-- An intersection by a kind: f puts a claim under the kind, and part reads it again.
module _ {A B : Type 0} (order : A → A → Ordering) (f : A → B) (part : Precision B → Precision A) (back : (c : Precision A) → part (mapped f c) ≡ c) (P : Precision A → Type 0) where
  met_in : (o : Option (IntersectionResult (Precision A))) → InValue P o → InSome (λ c. P (part c)) (met f o)
  met_in (Some (Value c)) h = rw (back c) h
  met_in (Some Empty) h = tt
  met_in None h = tt

  pub bound_met : (ahead behind : A → A → Bool) (x y : Precision B) → P (part x) → P (part y) → InSome (λ c. P (part c)) (met f (intersection_by order ahead behind (part x) (part y)))
  bound_met ahead behind x y p q = met_in (intersection_by order ahead behind (part x) (part y)) (bound_kept order P ahead behind (part x) (part y) p q)

  pub precision_met : (x y : Precision B) → P (part x) → P (part y) → InSome (λ c. P (part c)) (met f (precision_intersection order (part x) (part y)))
  precision_met x y p q = met_in (precision_intersection order (part x) (part y)) (precision_kept order P (part x) (part y) p q)

-- an intersection gives a claim
abbrev pub Given : {T : Type 0} → Option (IntersectionResult (Precision T)) → Type 0
Given {T} o = (c : Precision T) × (o ≡ Some (Value c))

-- Where exact claims agree, and no exact one lies ahead of an inexact one, two claims with values have an intersection.
module _ {T : Type 0} (order : T → T → Ordering) (laws : OrderLaws order) (exact inexact : T → Type 0) (alike : (x y : T) → exact x → exact y → x ≡ y) where
  exacts_given : (x y : T) → exact x → exact y → Given (Some (cond (same order x y) (Value (Exact x)) Empty))
  exacts_given x y p q = (Exact x, ap Some (cond-true (same order x y) (Value (Exact x)) Empty (same_of order laws x y (alike x y p q))))

  pub bound_given : (ahead behind : T → T → Bool) → ((e i : T) → exact e → inexact i → ahead e i ≡ false) → (x y : Precision T) → is_absent x ≡ false → is_absent y ≡ false → Says exact inexact x → Says exact inexact y → Given (intersection_by order ahead behind x y)
  bound_given ahead behind within (Exact x) (Exact y) a b p q = exacts_given x y p q
  bound_given ahead behind within (Inexact x) (Inexact y) a b p q = (Inexact (cond (behind x y) x y), refl)
  bound_given ahead behind within (Exact e) (Inexact i) a b p q = (Exact e, ap Some (cond-false (ahead e i) Empty (Value (Exact e)) (within e i p q)))
  bound_given ahead behind within (Inexact i) (Exact e) a b p q = (Exact e, ap Some (cond-false (ahead e i) Empty (Value (Exact e)) (within e i q p)))
  bound_given ahead behind within (Exact x) Absent a b p q = absurd (true≢false b)
  bound_given ahead behind within (Inexact x) Absent a b p q = absurd (true≢false b)
  bound_given ahead behind within Absent (Exact y) a b p q = absurd (true≢false a)
  bound_given ahead behind within Absent (Inexact y) a b p q = absurd (true≢false a)
  bound_given ahead behind within Absent Absent a b p q = absurd (true≢false a)

  pub precision_given : (x y : Precision T) → is_absent x ≡ false → is_absent y ≡ false → Says exact inexact x → Says exact inexact y → Given (precision_intersection order x y)
  precision_given (Exact x) (Exact y) a b p q = exacts_given x y p q
  precision_given (Inexact x) (Inexact y) a b p q = (Inexact (lesser order x y), refl)
  precision_given (Exact e) (Inexact i) a b p q = (Exact e, refl)
  precision_given (Inexact i) (Exact e) a b p q = (Exact e, refl)
  precision_given (Exact x) Absent a b p q = absurd (true≢false b)
  precision_given (Inexact x) Absent a b p q = absurd (true≢false b)
  precision_given Absent (Exact y) a b p q = absurd (true≢false a)
  precision_given Absent (Inexact y) a b p q = absurd (true≢false a)
  precision_given Absent Absent a b p q = absurd (true≢false a)
