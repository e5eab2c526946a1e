use Rattle.std.proofs.Common.{true, set, ap, ◌∙◌, arith, length-set}
use Rattle.stat.specs.declared.Stat.TheVariants.{IsConstant}
use Rattle.listing.specs.Marks.{marked}
use Rattle.claims.proofs.Views.{mark_more}
use Rattle.set.proofs.stats_set.methods.only.Goals as goal

pub loop-stat-preserved : goal.loop-stat-preserved
loop-stat-preserved c =
    let marks = c.loop-stat.marks in
    let nine = c.loop-stat.invariant.0 in
    (length-set marks c.number.result true ∙ nine, λ t. ap (λ n. marked (set marks n true) t) c.number.ensures ∙ mark_more marks c.args.stats.now c.loop-stat.stat-index IsConstant nine (omega arith) c.loop-stat.invariant.1 t)
