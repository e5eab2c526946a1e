use Rattle.std.proofs.Common.{rules, refl, Err, arith}
use Rattle.columns.specs.declared.mark.ParseMarkError.TheVariants.{NoColon}
use Rattle.statement.proofs.Texts.{reads_whole, reads_parted}
use Rattle.columns.proofs.mark.MarkFromStr.from_str.Goals as goal

pub returns-in_default : goal.returns-in_default
returns-in_default c = reads_whole 58 (omega arith) _ _ c.args.s.now (Err NoColon) c.in_default.ensures.cases refl

pub returns-in_err-map_err : goal.returns-in_err-map_err
returns-in_err-map_err c =
    reads_parted 58 (omega arith) _ _ c.args.s.now _ c.in-Some.before c.in-Some.behind c.in-Some.ensures.cases (c.from_str-lot.result, c.from_str-piece.result, c.from_str-lot.ensures, c.from_str-piece.ensures, search rules)

pub returns-in_err-map_err-2 : goal.returns-in_err-map_err-2
returns-in_err-map_err-2 c =
    reads_parted 58 (omega arith) _ _ c.args.s.now _ c.in-Some.before c.in-Some.behind c.in-Some.ensures.cases (c.from_str-lot.result, c.from_str-piece.result, c.from_str-lot.ensures, c.from_str-piece.ensures, search rules)

pub returns : goal.returns
returns c =
    reads_parted 58 (omega arith) _ _ c.args.s.now _ c.in-Some.before c.in-Some.behind c.in-Some.ensures.cases (c.from_str-lot.result, c.from_str-piece.result, c.from_str-lot.ensures, c.from_str-piece.ensures, search rules)
