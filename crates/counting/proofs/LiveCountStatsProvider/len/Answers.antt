use Rattle.std.proofs.Common.{length, refl, ap, ◌∙◌}
use Rattle.rules.specs.Column.{column, ColumnLaws}
use Rattle.counting.proofs.Telling.{tells_counted}
use Rattle.counting.proofs.LiveCountStatsProvider.len.Goals as goal

pub returns : goal.returns
returns g c =
    let k = column g.E.Ordered.order g.E.Sum.Ordered.order g.E.Element.sums in
    let laws : ColumnLaws k = record { ordered = g.met.E.Ordered.ordered; sums_ordered = g.met.E.Sum.Ordered.ordered; narrow = g.met.E.Element.narrow; summed = g.met.E.Element.summed } in
    record { answer = c.told_len.ensures ∙ ap length (tells_counted k laws c.args.self.now.rows.now c.tallied.result c.tallied.ensures); steady = refl }
