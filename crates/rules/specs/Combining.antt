-- Combining statements about the same rows into a set.
use Rattle.std.specs.Prelude.{cond, List, [], ◌∷◌, Some, None, Option}
use Rattle.stat.specs.declared.Stat.{Stat}
use Rattle.stat.specs.declared.Stat.TheVariants.{IsConstant, IsSorted, IsStrictSorted, Max, Min, Sum as Total, NullCount, UncompressedSizeInBytes, NaNCount}
use Rattle.precision.specs.declared.precision.Precision.{Precision}
use Rattle.stat_bound.specs.declared.IntersectionResult.{IntersectionResult}
use Rattle.stat_bound.specs.declared.IntersectionResult.TheVariants.{Value, Empty}
use Rattle.statement.specs.declared.StatValue.TheVariants.{Flag, Element, Sum, Count}
use Rattle.statement.specs.declared.Statement.{Statement}
use Rattle.order.specs.Order.{flag_order, count_order}
use Rattle.rules.specs.Column.{Column}
use Rattle.statement.specs.Kinds.{Claim, flag_claim, element_claim, sum_claim, count_claim}
use Rattle.precision.specs.Claims.{mapped}
use Rattle.stat_bound.specs.Bounds.{lower_intersection, upper_intersection, precision_intersection}
use Rattle.rules.specs.Sets.{Entries, got, has, put}

-- the claim that an intersection gives, if any
abbrev pub met : {A B : Type 0} → (A → B) → Option (IntersectionResult (Precision A)) → Option (Precision B)
met f (Some (Value c)) = Some (mapped f c)
met f (Some Empty) = None
met f None = None

module _ {V S : Type 0} (k : Column V S) where
  abbrev pub intersected : Stat → Claim V S → Claim V S → Option (Claim V S)
  intersected IsConstant x y = met Flag (precision_intersection flag_order (flag_claim x) (flag_claim y))
  intersected IsSorted x y = met Flag (precision_intersection flag_order (flag_claim x) (flag_claim y))
  intersected IsStrictSorted x y = met Flag (precision_intersection flag_order (flag_claim x) (flag_claim y))
  intersected Max x y = met Element (upper_intersection k.order (element_claim x) (element_claim y))
  intersected Min x y = met Element (lower_intersection k.order (element_claim x) (element_claim y))
  intersected Total x y = met Sum (precision_intersection k.sum_order (sum_claim x) (sum_claim y))
  intersected NullCount x y = met Count (upper_intersection count_order (count_claim x) (count_claim y))
  intersected UncompressedSizeInBytes x y = met Count (upper_intersection count_order (count_claim x) (count_claim y))
  intersected NaNCount x y = met Count (upper_intersection count_order (count_claim x) (count_claim y))

  -- a missing statistic takes the claim, a present one the intersection; None: they contradict each other
  abbrev pub joined : Entries V S → Statement V S → Option (Claim V S)
  joined es s = cond (has es s.stat) (intersected s.stat (got es s.stat) s.claim) (Some s.claim)

module _ {V S : Type 0} (k : Column V S) where
  -- statement after statement, until one contradicts what is there: the entries then,
  abbrev pub combined : List (Statement V S) → Entries V S → Entries V S
  combined [] es = es
  combined (s ∷ ss) es = elim (joined k es s) [ Some c ↦ combined ss (put es s.stat c) | None ↦ es ]

  -- the statements that went in,
  abbrev pub taken : List (Statement V S) → Entries V S → List (Statement V S)
  taken [] es = []
  taken (s ∷ ss) es = elim (joined k es s) [ Some c ↦ s ∷ taken ss (put es s.stat c) | None ↦ [] ]

  -- and the statistic that stopped it
  abbrev pub against : List (Statement V S) → Entries V S → Option Stat
  against [] es = None
  against (s ∷ ss) es = elim (joined k es s) [ Some c ↦ against ss (put es s.stat c) | None ↦ Some s.stat ]
