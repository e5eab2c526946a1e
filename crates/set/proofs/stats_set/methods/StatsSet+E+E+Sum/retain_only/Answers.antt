use Rattle.std.proofs.Common.{◌∙◌}
use Rattle.listing.specs.Marks.{marked}
use Rattle.claims.specs.Entries.{has_stat}
use Rattle.claims.proofs.Views.{retained_same}
use Rattle.rules.specs.Column.{column}
use Rattle.set.specs.Viewed.{entries}
use Rattle.set.proofs.Properly.{retained_true}
use Rattle.set.proofs.stats_set.methods.StatsSet+E+E+Sum.retain_only.Goals as goal

pub returns : goal.returns
returns g c =
    let sums = g.E.Element.sums.has_sums in
    let es = entries sums c.args.self.now in
    let e = c.keep.ensures ∙ retained_same es (marked c.only.result) (has_stat c.args.stats.now) c.only.ensures in
    record { after = e; truth = retained_true (column g.E.Ordered.order g.E.Sum.Ordered.order g.E.Element.sums) es _ (has_stat c.args.stats.now) e }
