use Rattle.std.proofs.Common.{[], ◌∷◌, None, ap, ◌∙◌, rules}
use Rattle.stat.specs.declared.Stat.TheVariants.{IsConstant, IsSorted, IsStrictSorted, Min, Sum, NullCount, UncompressedSizeInBytes}
use Rattle.rules.specs.Sets.{got}
use Rattle.rules.specs.Counting.{counted}
use Rattle.cases.specs.Listed.{measure_column}
use Rattle.cases.proofs.Zones.{one, two, zones_at, one_at, two_at}
use Rattle.cases.proofs.worked_cases.Goals as goal

pub returns : goal.returns
returns c =
    let falling = zones_at _ _ _ (two 2 2) (two 1 1) c.merged-falling.ensures (two_at _ _ 2 2 c.row.ensures c.row-2.ensures) (two_at _ _ 1 1 c.row-3.ensures c.row-4.ensures) in
    let level = zones_at _ _ _ (two 1 2) (two 2 3) c.merged-level.ensures (two_at _ _ 1 2 c.row-5.ensures c.row-6.ensures) (two_at _ _ 2 3 c.row-7.ensures c.row-8.ensures) in
    let full = zones_at _ _ _ (one 9223372036854775807) (one 1) c.merged-full.ensures (one_at _ 9223372036854775807 c.row-9.ensures) (one_at _ 1 c.row-10.ensures) in
    let holed = c.count-holed.ensures.value ∙ ap (λ r. counted measure_column (None ∷ r ∷ [])) c.row-11.ensures in
    record {
      lower_equal = search rules;
      lower_above = search rules;
      upper_below = search rules;
      lower_apart = search rules;
      lower_meets = search rules;
      exact_below = search rules;
      exact_above = search rules;
      falling_constant = c.get.ensures ∙ ap (λ es. got es IsConstant) falling;
      falling_sorted = c.get-2.ensures ∙ ap (λ es. got es IsSorted) falling;
      falling_min = c.get-3.ensures ∙ ap (λ es. got es Min) falling;
      falling_sum = c.get-4.ensures ∙ ap (λ es. got es Sum) falling;
      level_sorted = c.get-5.ensures ∙ ap (λ es. got es IsSorted) level;
      level_strict = c.get-6.ensures ∙ ap (λ es. got es IsStrictSorted) level;
      full_sum = c.get-7.ensures ∙ ap (λ es. got es Sum) full;
      null_constant = c.get-8.ensures ∙ ap (λ es. got es IsConstant) holed;
      null_count = c.get-9.ensures ∙ ap (λ es. got es NullCount) holed;
      null_size = c.get-10.ensures ∙ ap (λ es. got es UncompressedSizeInBytes) holed;
    }
