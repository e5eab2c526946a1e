use Rattle.std.proofs.Common.{◌≡◌, sym, arith}
use Rattle.std.proofs.lemmas.Int.{ints}
use Rattle.columns.specs.MeasuresLemmas.{is_measured}
use Rattle.cases.proofs.row.Goals as goal

pub returns : goal.returns
returns c =
    let e : c.new.result.value ≡ c.args.value = omega (arith, ints) in sym (is_measured c.new.result c.args.value e)
