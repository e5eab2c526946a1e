-- What counting rows owes.
use Rattle.std.specs.Prelude.{◌≡◌, true, List}
use Rattle.stat.specs.Stats.{all_stats}
use Rattle.rules.specs.Column.{Column}
use Rattle.stat.specs.declared.Stat.TheVariants.{Sum}
use Rattle.rules.specs.Rows.{Row, elements}
use Rattle.rules.specs.Truth.{Tells, AllHold}
use Rattle.rules.specs.Sets.{Entries, chosen, stats_of, has}
use Rattle.rules.specs.Counting.{counted, is_counted, RunningFits}

-- the entries are the counted ones, each claim is true of the rows, and there is one of just the statistics that counting sets
pub record Counts {V S : Type 0} (k : Column V S) (rows : List (Row V)) (es : Entries V S) : Type 0 where
  pub value : es ≡ counted k rows
  pub truth : AllHold k rows es
  pub which : stats_of es ≡ chosen (is_counted k rows) all_stats
  -- where there are sums, one is there exactly if every running total of the elements has a sum
  pub fits : k.sums.has_sums ≡ true → Tells (RunningFits k (elements rows)) (has es Sum)
