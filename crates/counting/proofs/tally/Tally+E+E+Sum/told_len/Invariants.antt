use Rattle.std.proofs.Common.{◌≡◌, ◌+◌, ◌≤◌, length, drop}
use Rattle.stat.specs.Stats.{all_stats}
use Rattle.counting.specs.Tallied.{tally_claim, present}
use Rattle.counting.proofs.tally.Tally+E+E+Sum.told_len.Given as goal

abbrev pub invariant-loop-stat : goal.invariant-loop-stat
invariant-loop-stat g l =
    let f = tally_claim g.E.Ordered.order g.E.Element.sums l.self l.rows in
    (l.len ≤ l.stat-index) × (length (present f all_stats) ≡ l.len + length (present f (drop l.stat-index l.stat-items)))
