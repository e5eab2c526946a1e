use Rattle.std.proofs.Common.{rules, refl, Ok, Err, arith}
use Rattle.statement.specs.declared.text.ParseStatementError.TheVariants.{NoSign}
use Rattle.statement.proofs.Texts.{reads_whole, reads_parted}
use Rattle.statement.proofs.text.StatementFromStr.from_str.Goals as goal

pub returns-in_default : goal.returns-in_default
returns-in_default g c = reads_whole 61 (omega arith) _ _ c.args.word.now (Err NoSign) c.in_default.ensures.cases refl

pub returns-in_err-claim : goal.returns-in_err-claim
returns-in_err-claim g c =
    reads_parted 61 (omega arith) _ _ c.args.word.now _ c.in-Some.name c.in-Some.text c.in-Some.ensures.cases (Ok c.in_ok-stat.stat, c.in_ok-stat.ensures, (c.read_claim.result, c.read_claim.ensures, search rules))

pub returns : goal.returns
returns g c =
    reads_parted 61 (omega arith) _ _ c.args.word.now _ c.in-Some.name c.in-Some.text c.in-Some.ensures.cases (Ok c.in_ok-stat.stat, c.in_ok-stat.ensures, (c.read_claim.result, c.read_claim.ensures, search rules))
