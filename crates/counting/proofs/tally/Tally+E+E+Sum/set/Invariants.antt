use Rattle.std.proofs.Common.{◌≡◌, take}
use Rattle.set.specs.Viewed.{entries}
use Rattle.counting.specs.Tallied.{tally_claim, all_put}
use Rattle.counting.proofs.tally.Tally+E+E+Sum.set.Given as goal

abbrev pub invariant-loop-stat : goal.invariant-loop-stat
invariant-loop-stat g l =
    entries g.E.Element.sums.has_sums l.set ≡ all_put (tally_claim g.E.Ordered.order g.E.Element.sums l.self l.rows) (take l.stat-index l.stat-items)
