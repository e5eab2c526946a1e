use Rattle.std.proofs.Common.{cond, sym, ap, ◌∙◌}
use Rattle.precision.specs.declared.precision.Precision.TheVariants.{Absent}
use Rattle.listing.specs.Listed.{listed}
use Rattle.claims.specs.Entries.{claim_in}
use Rattle.claims.proofs.Views.{got_shown}
use Rattle.set.proofs.stats_set.methods.StatsSet+E+E+Sum.get.Goals as goal

pub returns-then-counted : goal.returns-then-counted
returns-then-counted g c =
    let s = c.args.self.now in
    let x = claim_in s.claims c.args.stat in
    c.claim.ensures ∙ ap (λ b. cond b x Absent) c.if-counted.ensures ∙ sym (got_shown g.E.Element.sums.has_sums s.claims (listed s.order) (s.once, s.present) c.args.stat)

pub returns-else-counted : goal.returns-else-counted
returns-else-counted g c =
    let s = c.args.self.now in
    let x = claim_in s.claims c.args.stat in
    ap (λ b. cond b x Absent) c.if-counted.ensures ∙ sym (got_shown g.E.Element.sums.has_sums s.claims (listed s.order) (s.once, s.present) c.args.stat)
