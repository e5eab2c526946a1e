use Rattle.std.proofs.Common.{◌≡◌, length, take}
use Rattle.stat.specs.declared.Stat.{Stat}
use Rattle.listing.specs.Marks.{marked}
use Rattle.claims.specs.Entries.{has_stat}
use Rattle.set.proofs.stats_set.methods.only.Given as goal

abbrev pub invariant-loop-stat : goal.invariant-loop-stat
invariant-loop-stat l = (length l.marks ≡ 9) × ((t : Stat) → marked l.marks t ≡ has_stat (take l.stat-index l.stats) t)
