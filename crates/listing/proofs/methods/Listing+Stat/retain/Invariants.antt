use Rattle.std.proofs.Common.{◌≡◌, take, filter}
use Rattle.listing.specs.Listed.{listed}
use Rattle.listing.specs.Marks.{marked}
use Rattle.listing.proofs.methods.Listing+Stat.retain.Given as goal

abbrev pub invariant-loop-stat : goal.invariant-loop-stat
invariant-loop-stat l = listed l.chosen ≡ filter (marked l.keep) (take l.stat-index l.stat-items)
