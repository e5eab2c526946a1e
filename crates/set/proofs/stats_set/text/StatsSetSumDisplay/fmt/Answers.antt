use Rattle.std.proofs.Common.{Ok, arith}
use Rattle.std.proofs.Output.{displays_on_IsOk_append, displays_on_ok_of_eq}
use Rattle.set.proofs.Written.{others_more}
use Rattle.set.proofs.stats_set.text.StatsSetSumDisplay.fmt.Goals as goal

pub loop-stat-preserved : goal.loop-stat-preserved
loop-stat-preserved g c =
    displays_on_ok_of_eq g.W.Write.write_str_gives _ _ (Ok tt) _ _
    (others_more g.E.Display.output g.E.Sum.Display.output c.args.self.now.claims c.in-Some.others.now c.loop-stat.stat-index _ _ (omega arith) c.statement-in-loop-stat.ensures)
    (displays_on_IsOk_append g.W.Write.write_str_gives _ c.loop-stat.f _ (Ok tt) (Ok tt) _ _ (λ ok. ok) c.loop-stat.invariant c.in_ok-write-2.ensures.writes)
