use Rattle.listing.specs.Listed.{listed}
use Rattle.claims.proofs.Views.{put_after}
use Rattle.set.proofs.stats_set.methods.StatsSet+E+E+Sum.put.Goals as goal

pub invariant_of-self : goal.invariant_of-self
invariant_of-self g c =
    let s = c.args.self.now in
    let t = put_after g.E.Element.sums.has_sums s.claims (listed s.order) (s.once, s.present) c.put.new.self (listed c.order_with-order.result) c.args.stat c.args.claim c.requires.may c.requires.there c.put.ensures c.order_with-order.ensures in
    record { once = t.0.0; present = t.0.1 }

pub returns : goal.returns
returns g c =
    let s = c.args.self.now in
    (put_after g.E.Element.sums.has_sums s.claims (listed s.order) (s.once, s.present) c.put.new.self (listed c.order_with-order.result) c.args.stat c.args.claim c.requires.may c.requires.there c.put.ensures c.order_with-order.ensures).1
