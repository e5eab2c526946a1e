-- Claims as bounds of a statistic, and two claims of the same rows in one.
use Rattle.std.specs.Prelude.{Some, None, Option}
use Rattle.precision.specs.declared.precision.Precision.{Precision}
use Rattle.precision.specs.declared.precision.Precision.TheVariants.{Exact, Inexact, Absent}
use Rattle.stat_bound.specs.declared.IntersectionResult.{IntersectionResult}
use Rattle.stat_bound.specs.declared.IntersectionResult.TheVariants.{Value, Empty}

-- the bound of a claim that is there
abbrev pub bounded : {A B : Type 0} → (Precision A → B) → Precision A → Option B
bounded lifted (Exact v) = Some (lifted (Exact v))
bounded lifted (Inexact v) = Some (lifted (Inexact v))
bounded lifted Absent = None

-- the claim that an intersection gives
abbrev pub met_claim : {A : Type 0} → Option (IntersectionResult A) → Option A
met_claim (Some (Value c)) = Some c
met_claim (Some Empty) = None
met_claim None = None

-- the one that is there where the other is not, else the intersection; None where they contradict each other
abbrev pub narrowed : {A : Type 0} → (Precision A → Precision A → Option (IntersectionResult (Precision A))) → Precision A → Precision A → Option (Precision A)
narrowed met Absent y = Some y
narrowed met (Exact u) Absent = Some (Exact u)
narrowed met (Inexact u) Absent = Some (Inexact u)
narrowed met (Exact u) (Exact v) = met_claim (met (Exact u) (Exact v))
narrowed met (Exact u) (Inexact v) = met_claim (met (Exact u) (Inexact v))
narrowed met (Inexact u) (Exact v) = met_claim (met (Inexact u) (Exact v))
narrowed met (Inexact u) (Inexact v) = met_claim (met (Inexact u) (Inexact v))
