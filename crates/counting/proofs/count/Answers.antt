use Rattle.rules.specs.Column.{column, ColumnLaws}
use Rattle.set.specs.Viewed.{entries}
use Rattle.counting.proofs.Filling.{counting_owed}
use Rattle.counting.proofs.count.Goals as goal

pub returns : goal.returns
returns g c =
    let k = column g.E.Ordered.order g.E.Sum.Ordered.order g.E.Element.sums in
    let laws : ColumnLaws k = record { ordered = g.met.E.Ordered.ordered; sums_ordered = g.met.E.Sum.Ordered.ordered; narrow = g.met.E.Element.narrow; summed = g.met.E.Element.summed } in
    counting_owed k laws c.args.rows.now c.tallied.result (entries g.E.Element.sums.has_sums c.set.result) c.tallied.ensures c.set.ensures
