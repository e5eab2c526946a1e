-- What each worked case comes to.
use Rattle.std.specs.Prelude.{◌≡◌, true, false, pos, Some}
use Rattle.precision.specs.declared.precision.Precision.TheVariants.{Exact, Inexact, Absent}
use Rattle.stat_bound.specs.declared.IntersectionResult.TheVariants.{Value, Empty}
use Rattle.precision.specs.Claims.{mapped}
use Rattle.statement.specs.declared.StatValue.TheVariants.{Flag, Element, Sum, Count}
use Rattle.rules.specs.Column.{Column, column}
use Rattle.rules.specs.Merging.{exactly}
use Rattle.columns.specs.declared.measure.Measure.{Measure}
use Rattle.columns.specs.Measures.{measure_order, measure_sums, measured}
use Rattle.cases.specs.declared.Cases.{Cases}

-- the column of measures
abbrev pub measure_column : Column Measure Measure
measure_column = column measure_order measure_order measure_sums

pub record CasesHold (r : Cases) : Type 0 where
  pub lower_equal : r.lower_equal ≡ Some (record { 0 = Exact (pos 4) })
  pub lower_above : r.lower_above ≡ Some (record { 0 = Inexact (pos 4) })
  pub upper_below : r.upper_below ≡ Some (record { 0 = Inexact (pos 9) })
  pub lower_apart : r.lower_apart ≡ Some Empty
  pub lower_meets : r.lower_meets ≡ Some (Value (record { 0 = Exact (pos 4) }))
  pub exact_below : r.exact_below ≡ Some (Value (Exact (pos 5)))
  pub exact_above : r.exact_above ≡ Some (Value (Exact (pos 9)))
  pub falling_constant : r.falling_constant ≡ Exact (Flag false)
  pub falling_sorted : r.falling_sorted ≡ Inexact (Flag false)
  pub falling_min : r.falling_min ≡ mapped Element (exactly (measured (pos 1)))
  pub falling_sum : r.falling_sum ≡ mapped Sum (exactly (measured (pos 6)))
  pub level_sorted : r.level_sorted ≡ Exact (Flag true)
  pub level_strict : r.level_strict ≡ Inexact (Flag false)
  pub full_sum : r.full_sum ≡ Absent
  pub null_constant : r.null_constant ≡ Exact (Flag false)
  pub null_count : r.null_count ≡ Exact (Count 1)
  pub null_size : r.null_size ≡ Exact (Count 16)
