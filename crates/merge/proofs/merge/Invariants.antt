use Rattle.std.proofs.Common.{◌≡◌, drop}
use Rattle.stat.specs.Stats.{all_stats}
use Rattle.rules.specs.Column.{column}
use Rattle.rules.specs.Merging.{merged_over, merged}
use Rattle.set.specs.Viewed.{entries}
use Rattle.merge.proofs.merge.Given as goal

-- the nine are the items; merging what is left of them takes the entries to the merged ones
abbrev pub invariant-loop-stat : goal.invariant-loop-stat
invariant-loop-stat g l =
    let sums = g.E.Element.sums.has_sums in
    let k = column g.E.Ordered.order g.E.Sum.Ordered.order g.E.Element.sums in
    (l.stat-items ≡ all_stats)
    × (merged_over k l.in_order (entries sums l.other) (drop l.stat-index l.stat-items) (entries sums l.values) ≡ merged k l.in_order (entries sums l.fn.values) (entries sums l.other))
