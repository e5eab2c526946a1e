use Rattle.std.proofs.Common.{sym, ◌∙◌}
use Rattle.stat.specs.declared.Stat.TheVariants.{IsConstant}
use Rattle.counting.specs.Tallied.{tally_claim}
use Rattle.counting.proofs.Telling.{one_more, as_many}
use Rattle.counting.proofs.tally.Tally+E+E+Sum.told_len.Goals as goal
use Rattle.counting.proofs.tally.Tally+E+E+Sum.told_len.Goals.{then-not-is_absent, else-not-is_absent}

pub loop-stat-preserved : goal.loop-stat-preserved
loop-stat-preserved g c =
    elim c.if-not-is_absent.branch [
      | then-not-is_absent w ↦ one_more (tally_claim g.E.Ordered.order g.E.Element.sums c.args.self c.args.rows) c.all-stat-items.result c.all-stat-items.ensures c.loop-stat.stat-index IsConstant c.claim-claim.result c.loop-stat-test.true c.claim-claim.ensures _ c.loop-stat.len c.if-not-is_absent.len c.loop-stat.invariant w.len-is (sym c.is_absent.ensures ∙ w.if-not-is_absent.true)
      | else-not-is_absent w ↦ as_many (tally_claim g.E.Ordered.order g.E.Element.sums c.args.self c.args.rows) c.all-stat-items.result c.all-stat-items.ensures c.loop-stat.stat-index IsConstant c.claim-claim.result c.loop-stat-test.true c.claim-claim.ensures _ c.loop-stat.len c.if-not-is_absent.len c.loop-stat.invariant w.len-is (sym c.is_absent.ensures ∙ w.if-not-is_absent.false)
    ]
