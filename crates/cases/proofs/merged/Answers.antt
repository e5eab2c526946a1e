use Rattle.std.proofs.Common.{true, ◌∙◌, ap₂}
use Rattle.rules.specs.Merging.{merged}
use Rattle.cases.specs.Listed.{measure_column}
use Rattle.cases.proofs.merged.Goals as goal

pub returns : goal.returns
returns c = c.merge_ordered.ensures.value ∙ ap₂ (merged measure_column true) c.count-zone.ensures.value c.count.ensures.value
