use Rattle.std.proofs.Common.{length, sym, ap, ◌∙◌}
use Rattle.std.proofs.lemmas.List.{length-map}
use Rattle.set.proofs.stats_set.methods.StatsSet+E+E+Sum.len.Goals as goal

pub returns : goal.returns
returns g c = c.len.ensures ∙ ap length c.shown.ensures ∙ sym (length-map _ _)
