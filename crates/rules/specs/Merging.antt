-- What a merge gives for each statistic, and the merge of two sets.
use Rattle.std.specs.Prelude.{ℕ, ◌+◌, ◌^◌, Bool, true, false, cond, ◌&&◌, ◌||◌, List, [], ◌∷◌, Some, None, Option, nat_lt}
use Rattle.std.specs.declared.cmp.Ordering.{Ordering}
use Rattle.stat.specs.declared.Stat.{Stat}
use Rattle.stat.specs.declared.Stat.TheVariants.{IsConstant, IsSorted, IsStrictSorted, Max, Min, Sum as Total, NullCount, UncompressedSizeInBytes, NaNCount}
use Rattle.precision.specs.declared.precision.Precision.{Precision}
use Rattle.precision.specs.declared.precision.Precision.TheVariants.{Exact, Inexact, Absent}
use Rattle.statement.specs.declared.StatValue.TheVariants.{Flag, Element, Sum, Count}
use Rattle.order.specs.Order.{same, below, above}
use Rattle.rules.specs.Column.{Column}
use Rattle.statement.specs.Kinds.{Claim, flag_claim, element_claim, sum_claim, count_claim}
use Rattle.precision.specs.Claims.{mapped, value_of, exact_of, zipped}
use Rattle.stat_bound.specs.Bounds.{lower_union, upper_union}
use Rattle.rules.specs.Sets.{Entries, got, put}
use Rattle.stat.specs.Stats.{all_stats}

abbrev pub or_absent : {A : Type 0} → Option (Precision A) → Precision A
or_absent (Some c) = c
or_absent None = Absent

-- a function of two values, where both are there
abbrev pub both : {A B C : Type 0} → (A → B → Precision C) → Option A → Option B → Precision C
both f (Some x) (Some y) = f x y
both f (Some x) None = Absent
both f None (Some y) = Absent
both f None None = Absent

abbrev pub is_exactly : Bool → Precision Bool → Bool
is_exactly true (Exact true) = true
is_exactly true (Exact false) = false
is_exactly false (Exact true) = false
is_exactly false (Exact false) = true
is_exactly true (Inexact b) = false
is_exactly false (Inexact b) = false
is_exactly true Absent = false
is_exactly false Absent = false

-- uneven if a side is; two even sides are told apart by their exact least elements
abbrev pub constant_rule : {V : Type 0} → (V → V → Ordering) → Precision Bool → Precision Bool → Precision V → Precision V → Precision Bool
constant_rule order x y m n =
    cond (is_exactly false x || is_exactly false y)
    (Exact false)
    (cond (is_exactly true x && is_exactly true y) (both (λ u v. Exact (same order u v)) (exact_of m) (exact_of n)) Absent)

-- two sorted sides stay sorted if the greatest of the first is in step with the least of the second
abbrev pub sorted_rule : {V : Type 0} → (V → V → Bool) → Precision Bool → Precision Bool → Precision V → Precision V → Precision Bool
sorted_rule in_step x y top low =
    cond (is_exactly true x && is_exactly true y) (both (λ u v. cond (in_step u v) (Exact true) (Inexact false)) (value_of top) (value_of low)) Absent

abbrev pub exactly : {A : Type 0} → Option A → Precision A
exactly (Some u) = Exact u
exactly None = Absent

abbrev pub sum_rule : {S : Type 0} → (S → S → Option S) → Precision S → Precision S → Precision S
sum_rule plus x y = both (λ s t. exactly (plus s t)) (exact_of x) (exact_of y)

-- the numbers added, where the total is below 2 ^ 64
abbrev pub added : Precision (ℕ × ℕ) → Precision ℕ
added (Exact p) = cond (nat_lt (p.0 + p.1) (2 ^ 64)) (Exact (p.0 + p.1)) Absent
added (Inexact p) = cond (nat_lt (p.0 + p.1) (2 ^ 64)) (Inexact (p.0 + p.1)) Absent
added Absent = Absent

abbrev pub count_rule : Precision ℕ → Precision ℕ → Precision ℕ
count_rule x y = added (zipped x y)

module _ {V S : Type 0} (k : Column V S) (in_order : Bool) (a b : Entries V S) where
  -- what the merge gives; Absent clears
  abbrev pub rule : Stat → Claim V S
  rule IsConstant = mapped Flag (constant_rule k.order (flag_claim (got a IsConstant)) (flag_claim (got b IsConstant)) (element_claim (got a Min)) (element_claim (got b Min)))
  rule IsSorted =
      cond in_order
      (mapped Flag (sorted_rule (λ u v. cond (above k.order u v) false true) (flag_claim (got a IsSorted)) (flag_claim (got b IsSorted)) (element_claim (got a Max)) (element_claim (got b Min))))
      Absent
  rule IsStrictSorted =
      cond in_order
      (mapped Flag (sorted_rule (below k.order) (flag_claim (got a IsStrictSorted)) (flag_claim (got b IsStrictSorted)) (element_claim (got a Max)) (element_claim (got b Min))))
      Absent
  rule Max = mapped Element (or_absent (upper_union k.order (element_claim (got a Max)) (element_claim (got b Max))))
  rule Min = mapped Element (or_absent (lower_union k.order (element_claim (got a Min)) (element_claim (got b Min))))
  rule Total = mapped Sum (sum_rule k.sums.plus (sum_claim (got a Total)) (sum_claim (got b Total)))
  rule NullCount = mapped Count (count_rule (count_claim (got a NullCount)) (count_claim (got b NullCount)))
  rule UncompressedSizeInBytes = mapped Count (count_rule (count_claim (got a UncompressedSizeInBytes)) (count_claim (got b UncompressedSizeInBytes)))
  rule NaNCount = mapped Count (count_rule (count_claim (got a NaNCount)) (count_claim (got b NaNCount)))

module _ {V S : Type 0} (k : Column V S) (in_order : Bool) (b : Entries V S) where
  -- statistic after statistic, each on the entries as changed so far
  abbrev pub merged_over : List Stat → Entries V S → Entries V S
  merged_over [] a = a
  merged_over (s ∷ ss) a = merged_over ss (put a s (rule k in_order a b s))

abbrev pub merged : {V S : Type 0} → Column V S → Bool → Entries V S → Entries V S → Entries V S
merged k in_order a b = merged_over k in_order b all_stats a
