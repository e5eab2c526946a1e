-- Bounds: what a claim allows, the laws of an intersection and of a union, and the three bounds that there are.
use Rattle.std.specs.Prelude.{◌≡◌, Bool, true, false, cond, Some, None, Decides, Option}
use Rattle.std.specs.declared.cmp.Ordering.TheVariants.{Less, Greater}
use Rattle.std.specs.declared.cmp.Ordering.{Ordering}
use Rattle.precision.specs.declared.precision.Precision.{Precision}
use Rattle.precision.specs.declared.precision.Precision.TheVariants.{Exact, Inexact, Absent}
use Rattle.stat_bound.specs.declared.IntersectionResult.{IntersectionResult}
use Rattle.stat_bound.specs.declared.IntersectionResult.TheVariants.{Value, Empty}
use Rattle.order.specs.Order.{below, above, same, lesser}
use Rattle.precision.specs.Claims.{is_absent}

-- what an exact and an inexact claim say; an Absent one says nothing
abbrev pub Says : {A : Type 0} → (A → Type 0) → (A → Type 0) → Precision A → Type 0
Says exact inexact (Exact v) = exact v
Says exact inexact (Inexact v) = inexact v
Says exact inexact Absent = Unit {0}

abbrev pub Always : {A : Type 0} → A → Type 0
Always v = Unit {0}

-- an intersection of claims as one of bounds
abbrev pub met_by : {A B : Type 0} → (A → B) → Option (IntersectionResult A) → Option (IntersectionResult B)
met_by f (Some (Value c)) = Some (Value (f c))
met_by f (Some Empty) = Some Empty
met_by f None = None

abbrev pub is_empty : {A : Type 0} → IntersectionResult A → Bool
is_empty (Value c) = false
is_empty Empty = true

-- P of the claim that an intersection gives
abbrev pub InValue : {A : Type 0} → (A → Type 0) → IntersectionResult A → Type 0
InValue P (Value c) = P c
InValue P Empty = ⊥

-- The intersection of two claims with values: it allows every value that both allow, and no other, and is Empty exactly when there is none.
pub record Meets {T : Type 0} (allows : Precision T → T → Type 0) (x y : Precision T) (r : IntersectionResult (Precision T)) : Type 0 where
  pub keeps : (v : T) → allows x v → allows y v → InValue (λ c. allows c v) r
  pub only : (v : T) → InValue (λ c. allows c v) r → allows x v × allows y v
  pub empty : Decides (is_empty r) ((v : T) → allows x v → allows y v → ⊥)

abbrev pub IntersectionLaw : {T : Type 0} → (Precision T → T → Type 0) → (Precision T → Precision T → Option (IntersectionResult (Precision T))) → Type 0
IntersectionLaw {T} allows meet =
    (x y : Precision T) → is_absent x ≡ false → is_absent y ≡ false → (r : IntersectionResult (Precision T)) × (meet x y ≡ Some r) × Meets allows x y r

-- The union of two claims with values: it allows the one that is picked of any two values that its sides allow.
abbrev pub UnionLaw : {T : Type 0} → (Precision T → T → Type 0) → (T → T → T) → (Precision T → Precision T → Option (Precision T)) → Type 0
UnionLaw {T} allows pick join =
    (x y : Precision T) → is_absent x ≡ false → is_absent y ≡ false → (c : Precision T) × (join x y ≡ Some c) × ((u v : T) → allows x u → allows y v → allows c (pick u v))

-- A claim as a bound of its own: exact it allows only its value, inexact every value.
abbrev pub PrecisionAllows : {T : Type 0} → Precision T → T → Type 0
PrecisionAllows c x = Says (λ v. x ≡ v) Always c

module _ {T : Type 0} (order : T → T → Ordering) where
  -- the smaller value, exact only if both are
  abbrev pub precision_union : Precision T → Precision T → Option (Precision T)
  precision_union (Exact x) (Exact y) = Some (Exact (lesser order x y))
  precision_union (Exact x) (Inexact y) = Some (Inexact (lesser order x y))
  precision_union (Inexact x) (Exact y) = Some (Inexact (lesser order x y))
  precision_union (Inexact x) (Inexact y) = Some (Inexact (lesser order x y))
  precision_union (Exact x) Absent = None
  precision_union (Inexact x) Absent = None
  precision_union Absent (Exact y) = None
  precision_union Absent (Inexact y) = None
  precision_union Absent Absent = None

  -- an exact side decides, whatever the inexact one is
  abbrev pub precision_intersection : Precision T → Precision T → Option (IntersectionResult (Precision T))
  precision_intersection (Exact x) (Exact y) = Some (cond (same order x y) (Value (Exact x)) Empty)
  precision_intersection (Inexact x) (Inexact y) = Some (Value (Inexact (lesser order x y)))
  precision_intersection (Exact e) (Inexact i) = Some (Value (Exact e))
  precision_intersection (Inexact i) (Exact e) = Some (Value (Exact e))
  precision_intersection (Exact x) Absent = Some Empty
  precision_intersection (Inexact x) Absent = Some Empty
  precision_intersection Absent (Exact y) = Some Empty
  precision_intersection Absent (Inexact y) = Some Empty
  precision_intersection Absent Absent = Some Empty

-- Lower and upper bounds.

-- what a claim allows, over the test of what lies ahead: exact only its value, inexact no value ahead of it
abbrev pub Allows : {T : Type 0} → (T → T → Bool) → Precision T → T → Type 0
Allows ahead c x = Says (λ v. x ≡ v) (λ v. ahead x v ≡ false) c

-- of two values the one that lies ahead by the test, with its precision; of equal values Exact if either is
abbrev pub union_by : {T : Type 0} → (T → T → Bool) → Precision T → Precision T → Option (Precision T)
union_by ahead (Exact x) (Exact y) = Some (Exact (cond (ahead x y) x y))
union_by ahead (Inexact x) (Inexact y) = Some (Inexact (cond (ahead x y) x y))
union_by ahead (Exact e) (Inexact i) = Some (cond (ahead i e) (Inexact i) (Exact e))
union_by ahead (Inexact i) (Exact e) = Some (cond (ahead i e) (Inexact i) (Exact e))
union_by ahead (Exact x) Absent = None
union_by ahead (Inexact x) Absent = None
union_by ahead Absent (Exact y) = None
union_by ahead Absent (Inexact y) = None
union_by ahead Absent Absent = None

module _ {T : Type 0} (order : T → T → Ordering) where
  -- what a claim allows as a lower or an upper bound: exact only its value, inexact no value below it, or above it
  abbrev pub LowerAllows : Precision T → T → Type 0
  LowerAllows = Allows (below order)

  abbrev pub UpperAllows : Precision T → T → Type 0
  UpperAllows = Allows (above order)

  -- an inexact claim rules out what lies ahead of it; of two inexact claims the one that rules out more
  abbrev pub intersection_by : (T → T → Bool) → (T → T → Bool) → Precision T → Precision T → Option (IntersectionResult (Precision T))
  intersection_by ahead behind (Exact x) (Exact y) = Some (cond (same order x y) (Value (Exact x)) Empty)
  intersection_by ahead behind (Inexact x) (Inexact y) = Some (Value (Inexact (cond (behind x y) x y)))
  intersection_by ahead behind (Exact e) (Inexact i) = Some (cond (ahead e i) Empty (Value (Exact e)))
  intersection_by ahead behind (Inexact i) (Exact e) = Some (cond (ahead e i) Empty (Value (Exact e)))
  intersection_by ahead behind (Exact x) Absent = None
  intersection_by ahead behind (Inexact x) Absent = None
  intersection_by ahead behind Absent (Exact y) = None
  intersection_by ahead behind Absent (Inexact y) = None
  intersection_by ahead behind Absent Absent = None

  -- a lower bound takes the smaller value and rules out what is below, an upper bound the greater and what is above
  abbrev pub lower_union : Precision T → Precision T → Option (Precision T)
  lower_union = union_by (below order)

  abbrev pub lower_intersection : Precision T → Precision T → Option (IntersectionResult (Precision T))
  lower_intersection = intersection_by (below order) (above order)

  abbrev pub upper_union : Precision T → Precision T → Option (Precision T)
  upper_union = union_by (above order)

  abbrev pub upper_intersection : Precision T → Precision T → Option (IntersectionResult (Precision T))
  upper_intersection = intersection_by (above order) (below order)

  -- how a bound compares with a plain value, where that is known: an inexact one only with a value that lies ahead of it
  abbrev pub compared_by : (T → T → Bool) → Precision T → T → Option Ordering
  compared_by ahead (Exact x) v = Some (order x v)
  compared_by ahead (Inexact x) v = cond (ahead v x) (Some (order x v)) None
  compared_by ahead Absent v = None

  -- the same from either side: an inexact lower bound can only be known to be above a value, an inexact upper bound below
  abbrev pub known_above : T → T → Option Ordering
  known_above x v = cond (above order x v) (Some Greater) None

  abbrev pub known_below : T → T → Option Ordering
  known_below x v = cond (below order x v) (Some Less) None

  abbrev pub lower_compared : Precision T → T → Option Ordering
  lower_compared (Exact x) v = Some (order x v)
  lower_compared (Inexact x) v = known_above x v
  lower_compared Absent v = None

  abbrev pub upper_compared : Precision T → T → Option Ordering
  upper_compared (Exact x) v = Some (order x v)
  upper_compared (Inexact x) v = known_below x v
  upper_compared Absent v = None

-- whether a bound equals a plain value: only an exact one can
abbrev pub bound_equals : {T : Type 0} → (T → T → Ordering) → Precision T → T → Bool
bound_equals order (Exact x) v = same order x v
bound_equals order (Inexact x) v = false
bound_equals order Absent v = false

-- an answer to whether a bound equals a value: where it is true, the bound allows that value alone
pub record Equates {T : Type 0} (allows : Precision T → T → Type 0) (expected : Bool) (c : Precision T) (v : T) (r : Bool) : Type 0 where
  pub value : r ≡ expected
  pub alone : r ≡ true → (x : T) → allows c x → x ≡ v

-- an answer to how a bound compares with a value: where there is one, each value that the bound allows compares so
pub record Compares {T : Type 0} (order : T → T → Ordering) (allows : Precision T → T → Type 0) (expected : Option Ordering) (c : Precision T) (v : T) (r : Option Ordering) : Type 0 where
  pub value : r ≡ expected
  pub always : (o : Ordering) → r ≡ Some o → (x : T) → allows c x → order x v ≡ o
