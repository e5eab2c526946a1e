-- Marks of the nine statistics, by number.
use Rattle.std.specs.Prelude.{Bool, false, List, slice_index_or}
use Rattle.stat.specs.declared.Stat.{Stat}
use Rattle.stat.specs.Stats.{stat_number}

abbrev pub marked : List Bool → Stat → Bool
marked marks s = slice_index_or marks (stat_number s) false
