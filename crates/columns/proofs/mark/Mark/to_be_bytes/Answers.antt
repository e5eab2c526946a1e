use Rattle.std.proofs.Common.{◌≡◌, [], ◌∷◌, get_or, rules}
use Rattle.columns.specs.Marks.{mark_bytes, Narrow}
use Rattle.columns.proofs.Marks.{sorts_by_bytes}
use Rattle.columns.proofs.mark.Mark.to_be_bytes.Goals as goal

pub returns : goal.returns
returns c =
    let narrow : Narrow c.args.self = search rules in
    let lot = c.to_be_bytes.result in
    let piece = c.to_be_bytes-2.result in
    let e : get_or lot 0 0 ∷ get_or lot 1 0 ∷ get_or lot 2 0 ∷ get_or lot 3 0 ∷ get_or piece 0 0 ∷ get_or piece 1 0 ∷ get_or piece 2 0 ∷ get_or piece 3 0 ∷ [] ≡ mark_bytes c.args.self = search rules in
    record { value = e; sorts = sorts_by_bytes c.args.self narrow _ e }
