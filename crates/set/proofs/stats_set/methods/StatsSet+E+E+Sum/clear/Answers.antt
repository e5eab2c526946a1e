use Rattle.std.proofs.Common.{◌∙◌}
use Rattle.listing.specs.Marks.{marked}
use Rattle.rules.specs.Column.{column}
use Rattle.claims.proofs.Views.{retained_others}
use Rattle.set.specs.Viewed.{entries}
use Rattle.set.proofs.Properly.{cleared_true}
use Rattle.set.proofs.stats_set.methods.StatsSet+E+E+Sum.clear.Goals as goal

pub returns : goal.returns
returns g c =
    let sums = g.E.Element.sums.has_sums in
    let es = entries sums c.args.self.now in
    let e = c.keep.ensures ∙ retained_others es c.args.stat (marked c.all_but.result) c.all_but.ensures in
    record { after = e; truth = cleared_true (column g.E.Ordered.order g.E.Sum.Ordered.order g.E.Element.sums) es _ c.args.stat e }
