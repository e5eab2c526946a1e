use Rattle.std.proofs.Common.{◌≡◌, ◌+ℤ◌, sym, arith}
use Rattle.std.proofs.lemmas.Int.{ints}
use Rattle.columns.specs.MeasuresLemmas.{is_measured}
use Rattle.columns.proofs.measure.element.MeasureElement.plus.Goals as goal

pub returns : goal.returns
returns c =
    let h = c.in_ok-checked_add.ensures in
    let e : c.new.result.value ≡ c.args.a.value +ℤ c.args.b.value = omega (arith, ints) in
    sym (is_measured c.new.result (c.args.a.value +ℤ c.args.b.value) e)
