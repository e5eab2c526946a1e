use Rattle.std.proofs.Common.{Ok, take}
use Rattle.std.specs.Fmt.{DisplaysOnOk}
use Rattle.claims.specs.Entries.{entries_of}
use Rattle.set.specs.Written.{others_text}
use Rattle.set.proofs.stats_set.text.StatsSetSumDisplay.fmt.Given as goal

abbrev pub invariant-loop-stat : goal.invariant-loop-stat
invariant-loop-stat g l =
    DisplaysOnOk g.W.Write.write_str_gives l.initial.f (Ok tt) (others_text g.E.Display.output g.E.Sum.Display.output (entries_of l.fn.self.claims (take l.stat-index l.others))) l.f
