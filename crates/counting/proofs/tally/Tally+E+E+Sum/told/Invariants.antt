use Rattle.std.proofs.Common.{◌≡◌, drop}
use Rattle.std.specs.List.{slice_get}
use Rattle.stat.specs.Stats.{all_stats}
use Rattle.counting.specs.Tallied.{tally_claim, present}
use Rattle.counting.proofs.tally.Tally+E+E+Sum.told.Given as goal

abbrev pub invariant-loop-stat : goal.invariant-loop-stat
invariant-loop-stat g l =
    let f = tally_claim g.E.Ordered.order g.E.Element.sums l.self l.rows in
    slice_get (present f all_stats) l.place ≡ slice_get (present f (drop l.stat-index l.stat-items)) l.left
