use Rattle.std.proofs.Common.{length}
use Rattle.count_check.proofs.Plain.of.Given as goal

abbrev pub decreases-loop-earlier : goal.decreases-loop-earlier
decreases-loop-earlier l = length l.rest
