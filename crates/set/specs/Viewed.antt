-- A set as the list of its entries, in the order of first setting.
use Rattle.std.specs.Prelude.{Bool, filter}
use Rattle.listing.specs.Listed.{listed}
use Rattle.rules.specs.Sets.{Entries}
use Rattle.set.specs.declared.stats_set.StatsSet.{StatsSet}
use Rattle.claims.specs.Entries.{entries_of, counts}

-- `has_sums` tells whether the column has sums
abbrev pub entries : {V S : Type 0} → Bool → StatsSet V S → Entries V S
entries has_sums s = entries_of s.claims (filter (counts has_sums) (listed s.order))
