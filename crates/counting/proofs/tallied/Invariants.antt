use Rattle.std.proofs.Common.{◌≡◌, ◌≤◌, take}
use Rattle.rules.specs.Column.{column}
use Rattle.counting.specs.Tallied.{fresh}
use Rattle.counting.proofs.Running.{run}
use Rattle.counting.proofs.tallied.Given as goal

abbrev pub invariant-loop-row : goal.invariant-loop-row
invariant-loop-row g l =
    (l.tally.nulls ≤ l.row-index)
    × (l.tally ≡ run (column g.E.Ordered.order g.E.Sum.Ordered.order g.E.Element.sums) (fresh g.E.Element.sums) (take l.row-index l.rows))
