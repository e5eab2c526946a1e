use Rattle.std.proofs.Common.{refl, ap, ◌∙◌}
use Rattle.std.specs.List.{slice_get}
use Rattle.rules.specs.Column.{column, ColumnLaws}
use Rattle.counting.proofs.Telling.{tells_counted}
use Rattle.counting.proofs.LiveCountStatsProvider.tell.Goals as goal

pub returns : goal.returns
returns g c =
    let k = column g.E.Ordered.order g.E.Sum.Ordered.order g.E.Element.sums in
    let laws : ColumnLaws k = record { ordered = g.met.E.Ordered.ordered; sums_ordered = g.met.E.Sum.Ordered.ordered; narrow = g.met.E.Element.narrow; summed = g.met.E.Element.summed } in
    record { answer = c.told.ensures ∙ ap (λ es. slice_get es c.args.place) (tells_counted k laws c.args.self.now.rows.now c.tallied.result c.tallied.ensures); steady = refl }
