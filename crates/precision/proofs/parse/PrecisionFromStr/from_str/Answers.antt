use Rattle.std.proofs.Common.{Some, None, ◌∙◌, arith}
use Rattle.std.proofs.lemmas.Bool.{both_ways}
use Rattle.std.proofs.lemmas.Slice.Eq.{bytes_eq-Decides}
use Rattle.std.proofs.lemmas.Str.Pattern.{strip_prefix_char}
use Rattle.precision.proofs.Reading.{reads_inexact, reads_exact}
use Rattle.precision.proofs.parse.PrecisionFromStr.from_str.Goals as goal

pub returns-in-Some : goal.returns-in-Some
returns-in-Some g c =
    let e = strip_prefix_char 126 c.args.s.now (Some c.in-Some.value) c.in-Some.ensures.cases (omega arith) in
    reads_inexact g.T.FromStr.from_str_gives _ _ _ _ e c.from_str.ensures c.transpose.ensures

pub returns-in-None : goal.returns-in-None
returns-in-None g c =
    let none = strip_prefix_char 126 c.args.s.now None c.in-None.ensures.cases (omega arith) in
    reads_exact g.T.FromStr.from_str_gives _ _ _ (λ e. both_ways c.eq.result c.if-eq.false (c.eq.ensures ∙ (bytes_eq-Decides _ _).1 e)) none c.from_str-in-None.ensures c.transpose-in-None.ensures
