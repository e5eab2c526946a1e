use Rattle.std.proofs.Common.{sym, ◌∙◌, inl, inr}
use Rattle.listing.specs.Listed.{listed}
use Rattle.claims.proofs.Views.{shown_whole}
use Rattle.set.proofs.stats_set.methods.StatsSet+E+E+Sum.shown.Goals as goal
use Rattle.set.proofs.stats_set.methods.StatsSet+E+E+Sum.shown.Goals.{else-not-HAS_SUMS-via-then-not-HAS_SUMS+else-not-is_absent, else-not-HAS_SUMS-via-else-not-HAS_SUMS}

pub returns-else-not-HAS_SUMS : goal.returns-else-not-HAS_SUMS
returns-else-not-HAS_SUMS g c =
    let s = c.args.self.now in
    shown_whole g.E.Element.sums.has_sums s.claims (listed s.order) (s.once, s.present)
    (elim c.else-not-HAS_SUMS.branch [
      | else-not-HAS_SUMS-via-then-not-HAS_SUMS+else-not-is_absent w ↦ inr (sym w.is_absent.ensures ∙ w.if-not-is_absent.false)
      | else-not-HAS_SUMS-via-else-not-HAS_SUMS w ↦ inl (sym g.met.E.Element.adding ∙ sym c.HAS_SUMS.ensures ∙ w.if-not-HAS_SUMS.false)
    ])
