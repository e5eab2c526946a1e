use Rattle.std.proofs.Common.{sym, ◌∙◌, arith}
use Rattle.stat.specs.declared.Stat.TheVariants.{IsConstant}
use Rattle.counting.specs.Tallied.{tally_claim}
use Rattle.counting.proofs.Telling.{told_here, told_later, not_told}
use Rattle.counting.proofs.tally.Tally+E+E+Sum.told.Goals as goal
use Rattle.counting.proofs.tally.Tally+E+E+Sum.told.Goals.{then-not-is_absent+else-left-eq0, else-not-is_absent}

pub returns-then-left-eq0 : goal.returns-then-left-eq0
returns-then-left-eq0 g c =
    told_here (tally_claim g.E.Ordered.order g.E.Element.sums c.args.self c.args.rows) c.all-stat-items.result c.all-stat-items.ensures c.loop-stat.stat-index IsConstant c.claim-claim.result c.loop-stat-test.true c.claim-claim.ensures _ c.loop-stat.left c.loop-stat.invariant c.if-left-eq0.true (sym c.if-not-is_absent.ensures)

pub loop-stat-preserved : goal.loop-stat-preserved
loop-stat-preserved g c =
    elim c.if-not-is_absent.branch [
      | then-not-is_absent+else-left-eq0 w ↦ told_later (tally_claim g.E.Ordered.order g.E.Element.sums c.args.self c.args.rows) c.all-stat-items.result c.all-stat-items.ensures c.loop-stat.stat-index IsConstant c.claim-claim.result c.loop-stat-test.true c.claim-claim.ensures _ c.loop-stat.left c.if-not-is_absent.left c.loop-stat.invariant w.if-left-eq0.false (omega (arith, w.left-is, w.if-left-eq0.false)) (sym c.is_absent.ensures ∙ w.if-not-is_absent.true)
      | else-not-is_absent w ↦ not_told (tally_claim g.E.Ordered.order g.E.Element.sums c.args.self c.args.rows) c.all-stat-items.result c.all-stat-items.ensures c.loop-stat.stat-index IsConstant c.claim-claim.result c.loop-stat-test.true c.claim-claim.ensures _ c.loop-stat.left c.if-not-is_absent.left c.loop-stat.invariant w.left-is (sym c.is_absent.ensures ∙ w.if-not-is_absent.false)
    ]
