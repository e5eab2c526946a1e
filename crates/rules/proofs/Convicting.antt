-- A contradiction convicts: where two claims have no intersection, no rows have both true.
use Rattle.std.proofs.Common.{◌≡◌, ℕ, ◌*◌, ◌≤◌, Bool, true, false, List, length, ℤ, None, Option, Ordering, sym, refl, ap, ◌∙◌, subst, zero-le}
use Rattle.std.proofs.lemmas.Bool.{false≢true}
use Rattle.stat.specs.declared.Stat.{Stat}
use Rattle.stat.specs.declared.Stat.TheVariants.{IsConstant, IsSorted, IsStrictSorted, Max, Min, Sum as Total, NullCount, UncompressedSizeInBytes, NaNCount}
use Rattle.precision.specs.declared.precision.Precision.{Precision}
use Rattle.stat_bound.specs.declared.IntersectionResult.{IntersectionResult}
use Rattle.statement.specs.declared.StatValue.TheVariants.{Flag, Element, Sum, Count}
use Rattle.order.specs.Order.{OrderLaws, flag_order, count_order, below, above}
use Rattle.order.proofs.Numbers.{flags_ordered, counts_ordered, not_above}
use Rattle.rules.specs.Column.{Column, ColumnLaws}
use Rattle.rules.specs.Rows.{Row, elements, nulls, NoTwoDiffer, NeverFall, AlwaysRise, number_total}
use Rattle.rules.specs.Claims.{some?, settable}
use Rattle.statement.specs.Kinds.{Claim, flag_claim, element_claim, sum_claim, count_claim}
use Rattle.stat_bound.specs.Bounds.{Says, Always, intersection_by, lower_intersection, upper_intersection, precision_intersection}
use Rattle.rules.specs.Truth.{Tells, ClaimHolds}
use Rattle.rules.specs.Combining.{met, intersected}
use Rattle.rules.proofs.Lists.{every_in}
use Rattle.rules.proofs.Claims.{settable_sums, flag_there, element_there, sum_there, count_there}
use Rattle.order.proofs.Orders.{Strict, below_strict, above_strict}
use Rattle.rules.proofs.Best.{NoneAhead, Leads}
use Rattle.rules.proofs.Meeting.{Given, bound_given, precision_given}

-- an intersection that gives a claim is no contradiction
given_met : {A B : Type 0} (f : A → B) (o : Option (IntersectionResult (Precision A))) → Given o → met f o ≡ None → ⊥
given_met f o g e = false≢true (sym (ap some? e) ∙ ap (λ r. some? (met f r)) g.1)

-- When two exact claims of a statistic agree: what they say.
flags_alike : (P : Type 0) (x y : Bool) → Tells P x → Tells P y → x ≡ y
flags_alike P true true p q = refl
flags_alike P true false p q = absurd (q p)
flags_alike P false true p q = absurd (p q)
flags_alike P false false p q = refl

leads_alike : {V : Type 0} (ahead behind : V → V → Bool) → Strict ahead behind → (vs : List V) (x y : V) → Leads ahead vs x → Leads ahead vs y → x ≡ y
leads_alike ahead behind strict vs x y p q =
    strict.level x y (every_in (λ v. ahead v y ≡ false) x vs q.1 p.0) (every_in (λ v. ahead v x ≡ false) y vs p.1 q.0)

-- Two claims of a kind that are both true have an intersection.
module _ {V S : Type 0} (sums : Bool) (x y : Claim V S) where
  flags_meet : (P : Type 0) → settable sums IsConstant x ≡ true → settable sums IsConstant y ≡ true → Says (Tells P) Always (flag_claim x) → Says (Tells P) Always (flag_claim y) → Given (precision_intersection flag_order (flag_claim x) (flag_claim y))
  flags_meet P a b =
      precision_given flag_order flags_ordered (Tells P) Always (flags_alike P) (flag_claim x) (flag_claim y) (flag_there sums x a) (flag_there sums y b)

  -- n of something, exactly, or at most so many
  counts_meet : (n : ℕ) (inexact : ℕ → Type 0) → ((i : ℕ) → inexact i → n ≤ i) → settable sums NullCount x ≡ true → settable sums NullCount y ≡ true → Says (λ m. m ≡ n) inexact (count_claim x) → Says (λ m. m ≡ n) inexact (count_claim y) → Given (upper_intersection count_order (count_claim x) (count_claim y))
  counts_meet n inexact room a b =
      bound_given count_order counts_ordered (λ m. m ≡ n) inexact (λ x y p q. p ∙ sym q) (above count_order) (below count_order)
      (λ e i p q. not_above e i (subst (λ m. m ≤ i) (sym p) (room i q))) (count_claim x) (count_claim y) (count_there sums x a) (count_there sums y b)

  -- the greatest, or the least, of some elements
  elements_meet : (order : V → V → Ordering) → OrderLaws order → (ahead behind : V → V → Bool) → Strict ahead behind → (vs : List V) → settable sums Max x ≡ true → settable sums Max y ≡ true → Says (Leads ahead vs) (NoneAhead ahead vs) (element_claim x) → Says (Leads ahead vs) (NoneAhead ahead vs) (element_claim y) → Given (intersection_by order ahead behind (element_claim x) (element_claim y))
  elements_meet order laws ahead behind strict vs a b =
      bound_given order laws (Leads ahead vs) (NoneAhead ahead vs) (leads_alike ahead behind strict vs) ahead behind
      (λ e i p q. every_in (λ v. ahead v i ≡ false) e vs q p.0) (element_claim x) (element_claim y) (element_there sums x a) (element_there sums y b)

  -- the sum that stands for a total
  sums_meet : (order : S → S → Ordering) → OrderLaws order → (total : S → ℤ) → ((s t : S) → total s ≡ total t → s ≡ t) → (n : ℤ) → settable sums Total x ≡ true → settable sums Total y ≡ true → Says (λ s. total s ≡ n) Always (sum_claim x) → Says (λ s. total s ≡ n) Always (sum_claim y) → Given (precision_intersection order (sum_claim x) (sum_claim y))
  sums_meet order laws total apart n a b =
      precision_given order laws (λ s. total s ≡ n) Always (λ s t p q. apart s t (p ∙ sym q)) (sum_claim x) (sum_claim y) (sum_there sums x a) (sum_there sums y b)

module _ {V S : Type 0} (k : Column V S) (laws : ColumnLaws k) (rows : List (Row V)) where
  flags_convict : (P : Type 0) (x y : Claim V S) → settable k.sums.has_sums IsConstant x ≡ true → settable k.sums.has_sums IsConstant y ≡ true → intersected k IsConstant x y ≡ None → Says (Tells P) Always (flag_claim x) → Says (Tells P) Always (flag_claim y) → ⊥
  flags_convict P x y a b e p q = given_met Flag (precision_intersection flag_order (flag_claim x) (flag_claim y)) (flags_meet k.sums.has_sums x y P a b p q) e

  counts_convict : (n : ℕ) (inexact : ℕ → Type 0) → ((i : ℕ) → inexact i → n ≤ i) → (x y : Claim V S) → settable k.sums.has_sums NullCount x ≡ true → settable k.sums.has_sums NullCount y ≡ true → intersected k NullCount x y ≡ None → Says (λ m. m ≡ n) inexact (count_claim x) → Says (λ m. m ≡ n) inexact (count_claim y) → ⊥
  counts_convict n inexact room x y a b e p q =
      given_met Count (upper_intersection count_order (count_claim x) (count_claim y)) (counts_meet k.sums.has_sums x y n inexact room a b p q) e

  -- two claims that contradict each other are not both true of any rows
  pub convicts : (s : Stat) (x y : Claim V S) → settable k.sums.has_sums s x ≡ true → settable k.sums.has_sums s y ≡ true → intersected k s x y ≡ None → ClaimHolds k rows s x → ClaimHolds k rows s y → ⊥
  convicts IsConstant x y a b e p q = flags_convict (NoTwoDiffer rows) x y a b e p q
  convicts IsSorted x y a b e p q = flags_convict (NeverFall k.order (elements rows)) x y a b e p q
  convicts IsStrictSorted x y a b e p q = flags_convict (AlwaysRise k.order (elements rows)) x y a b e p q
  convicts Max x y a b e p q =
      given_met Element (upper_intersection k.order (element_claim x) (element_claim y))
      (elements_meet k.sums.has_sums x y k.order laws.ordered (above k.order) (below k.order) (above_strict k.order laws.ordered) (elements rows) a b p q) e
  convicts Min x y a b e p q =
      given_met Element (lower_intersection k.order (element_claim x) (element_claim y))
      (elements_meet k.sums.has_sums x y k.order laws.ordered (below k.order) (above k.order) (below_strict k.order laws.ordered) (elements rows) a b p q) e
  convicts Total x y a b e p q =
      given_met Sum (precision_intersection k.sum_order (sum_claim x) (sum_claim y))
      (sums_meet k.sums.has_sums x y k.sum_order laws.sums_ordered k.sums.total (laws.summed (settable_sums k.sums.has_sums x a)).apart (number_total k.sums.number (elements rows)) a b p q) e
  convicts NullCount x y a b e p q = counts_convict (nulls rows) (λ n. nulls rows ≤ n) (λ i h. h) x y a b e p q
  convicts UncompressedSizeInBytes x y a b e p q = counts_convict (length rows * k.sums.width) (λ n. length rows * k.sums.width ≤ n) (λ i h. h) x y a b e p q
  convicts NaNCount x y a b e p q = counts_convict 0 Always (λ i h. zero-le) x y a b e p q
