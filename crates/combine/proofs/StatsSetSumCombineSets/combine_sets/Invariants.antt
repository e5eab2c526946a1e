use Rattle.std.proofs.Common.{◌≡◌}
use Rattle.rules.specs.Column.{column}
use Rattle.set.specs.Viewed.{entries}
use Rattle.combine.proofs.Telling.{Stands}
use Rattle.combine.proofs.StatsSetSumCombineSets.combine_sets.Given as goal

abbrev pub invariant-loop-place : goal.invariant-loop-place
invariant-loop-place g l =
    (g.P.StatsProvider.told l.other ≡ g.P.StatsProvider.told l.initial.other)
    × Stands (column g.E.Ordered.order g.E.Sum.Ordered.order g.E.Element.sums) (g.P.StatsProvider.told l.initial.other) (entries g.E.Element.sums.has_sums l.initial.self) l.place (entries g.E.Element.sums.has_sums l.self)
