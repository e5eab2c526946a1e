use Rattle.std.proofs.Common.{◌<◌, ◌≤◌, length, ap, sym, subst}
use Rattle.stat.specs.declared.Stat.TheVariants.{IsConstant}
use Rattle.rules.specs.Column.{column, ColumnLaws}
use Rattle.rules.specs.Merging.{merged_over, merged}
use Rattle.set.specs.Viewed.{entries}
use Rattle.set.proofs.Properly.{set_proper}
use Rattle.merge.proofs.Stepping.{merged_more, merged_done, merge_owed}
use Rattle.merge.proofs.merge.Goals as goal

pub loop-stat-init : goal.loop-stat-init
loop-stat-init g c =
    let sums = g.E.Element.sums.has_sums in
    let k = column g.E.Ordered.order g.E.Sum.Ordered.order g.E.Element.sums in
    (c.all-stat-items.ensures, ap (λ ss. merged_over k c.args.in_order (entries sums c.args.other.now) ss (entries sums c.args.values.now)) c.all-stat-items.ensures)

pub loop-stat-preserved : goal.loop-stat-preserved
loop-stat-preserved g c =
    let sums = g.E.Element.sums.has_sums in
    let k = column g.E.Ordered.order g.E.Sum.Ordered.order g.E.Element.sums in
    let ss = c.all-stat-items.result in
    let i = c.loop-stat.stat-index in
    let below : i < length ss = subst (λ l. i < length l) (sym c.all-stat-items.ensures) c.loop-stat-test.true in (
      c.all-stat-items.ensures,
      merged_more k c.args.in_order (entries sums c.args.other.now) ss i IsConstant c.merged-claim.result (entries sums c.loop-stat.values) _ _ below (set_proper sums c.loop-stat.values).settable c.loop-stat.invariant.1 c.merged-claim.ensures c.set.ensures.after,
    )

pub returns : goal.returns
returns g c =
    let sums = g.E.Element.sums.has_sums in
    let k = column g.E.Ordered.order g.E.Sum.Ordered.order g.E.Element.sums in
    let laws : ColumnLaws k = record { ordered = g.met.E.Ordered.ordered; sums_ordered = g.met.E.Sum.Ordered.ordered; narrow = g.met.E.Element.narrow; summed = g.met.E.Element.summed } in
    let ss = c.all-stat-items.result in
    let i = c.loop-stat.stat-index in
    let past : length ss ≤ i = subst (λ l. length l ≤ i) (sym c.all-stat-items.ensures) c.loop-stat-test.false in
    let x = entries sums c.args.values.now in
    let y = entries sums c.args.other.now in
    merge_owed k laws c.args.in_order x y (entries sums c.loop-stat.values) (set_proper sums c.args.values.now).settable
    (merged_done k c.args.in_order y ss i (entries sums c.loop-stat.values) (merged k c.args.in_order x y) past c.loop-stat.invariant.1)
