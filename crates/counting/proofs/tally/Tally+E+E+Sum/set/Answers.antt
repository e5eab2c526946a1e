use Rattle.stat.specs.declared.Stat.TheVariants.{IsConstant}
use Rattle.counting.specs.Tallied.{tally_claim}
use Rattle.counting.proofs.Filling.{tally_may, put_more}
use Rattle.counting.proofs.tally.Tally+E+E+Sum.set.Goals as goal

pub loop-stat-preserved : goal.loop-stat-preserved
loop-stat-preserved g c =
    put_more (tally_claim g.E.Ordered.order g.E.Element.sums c.args.self c.args.rows) g.E.Element.sums.has_sums
    (tally_may g.E.Ordered.order g.E.Element.sums c.args.self c.args.rows) c.all-stat-items.result _ IsConstant _ _ _ c.loop-stat-test.true c.all-stat-items.ensures c.loop-stat.invariant c.claim.ensures c.set.ensures.after
