-- Which claims a set takes: those with a value of their statistic's kind.
use Rattle.std.specs.Prelude.{Bool, true, false, ◌&&◌, Some, None, Option}
use Rattle.stat.specs.declared.Stat.{Stat}
use Rattle.stat.specs.declared.Stat.TheVariants.{IsConstant, IsSorted, IsStrictSorted, Max, Min, Sum as Total, NullCount, UncompressedSizeInBytes, NaNCount}
use Rattle.precision.specs.declared.precision.Precision.TheVariants.{Exact, Inexact, Absent}
use Rattle.statement.specs.declared.StatValue.{StatValue}
use Rattle.statement.specs.Kinds.{Claim, flag_in, element_in, sum_in, count_in}

abbrev pub some? : {A : Type 0} → Option A → Bool
some? (Some x) = true
some? None = false

-- whether the value is of the statistic's kind, and no sum where the column has none
abbrev pub takes : {V S : Type 0} → Bool → Stat → StatValue V S → Bool
takes has_sums IsConstant v = some? (flag_in v)
takes has_sums IsSorted v = some? (flag_in v)
takes has_sums IsStrictSorted v = some? (flag_in v)
takes has_sums Max v = some? (element_in v)
takes has_sums Min v = some? (element_in v)
takes has_sums Total v = has_sums && some? (sum_in v)
takes has_sums NullCount v = some? (count_in v)
takes has_sums UncompressedSizeInBytes v = some? (count_in v)
takes has_sums NaNCount v = some? (count_in v)

-- whether `set` makes an entry of the claim: it has a value, and that is of the statistic's kind (an Absent claim clears)
abbrev pub settable : {V S : Type 0} → Bool → Stat → Claim V S → Bool
settable has_sums s (Exact v) = takes has_sums s v
settable has_sums s (Inexact v) = takes has_sums s v
settable has_sums s Absent = false

-- whether `set` takes the claim: one with a value of the statistic's kind, or an absent one, which clears
abbrev pub may_set : {V S : Type 0} → Bool → Stat → Claim V S → Bool
may_set has_sums s (Exact v) = takes has_sums s v
may_set has_sums s (Inexact v) = takes has_sums s v
may_set has_sums s Absent = true
