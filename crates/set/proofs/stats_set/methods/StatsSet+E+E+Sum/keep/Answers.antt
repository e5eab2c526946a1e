use Rattle.listing.specs.Listed.{listed}
use Rattle.claims.proofs.Views.{kept_after}
use Rattle.set.proofs.stats_set.methods.StatsSet+E+E+Sum.keep.Goals as goal

pub invariant_of-self : goal.invariant_of-self
invariant_of-self g c =
    let s = c.args.self.now in
    let t = kept_after g.E.Element.sums.has_sums s.claims (listed s.order) (s.once, s.present) c.keep.new.self (listed c.retain.new.self) c.args.keep.now c.keep.ensures c.retain.ensures in
    record { once = t.0.0; present = t.0.1 }

pub returns : goal.returns
returns g c =
    let s = c.args.self.now in
    (kept_after g.E.Element.sums.has_sums s.claims (listed s.order) (s.once, s.present) c.keep.new.self (listed c.retain.new.self) c.args.keep.now c.keep.ensures c.retain.ensures).1
