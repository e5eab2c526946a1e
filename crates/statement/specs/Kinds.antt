-- Claims of values, read by their kind, and statements.
use Rattle.std.specs.Prelude.{ℕ, Bool, true, false, Some, None, Option}
use Rattle.stat.specs.declared.Stat.{Stat}
use Rattle.precision.specs.declared.precision.Precision.{Precision}
use Rattle.precision.specs.declared.precision.Precision.TheVariants.{Exact, Inexact, Absent}
use Rattle.statement.specs.declared.StatValue.{StatValue}
use Rattle.statement.specs.declared.Statement.{Statement}
use Rattle.statement.specs.declared.StatValue.TheVariants.{Flag, Element, Sum, Count}

abbrev pub Claim : Type 0 → Type 0 → Type 0
Claim V S = Precision (StatValue V S)

abbrev pub claimed : {B : Type 0} → Bool → Option B → Precision B
claimed true (Some x) = Exact x
claimed false (Some x) = Inexact x
claimed true None = Absent
claimed false None = Absent

-- the claim of a part of its value, Absent where the value has no such part
abbrev pub parted : {A B : Type 0} → (A → Option B) → Precision A → Precision B
parted f (Exact v) = claimed true (f v)
parted f (Inexact v) = claimed false (f v)
parted f Absent = Absent

module _ {V S : Type 0} where
  abbrev pub flag_in : StatValue V S → Option Bool
  flag_in (Flag b) = Some b
  flag_in (Element v) = None
  flag_in (Sum s) = None
  flag_in (Count n) = None

  abbrev pub element_in : StatValue V S → Option V
  element_in (Flag b) = None
  element_in (Element v) = Some v
  element_in (Sum s) = None
  element_in (Count n) = None

  abbrev pub sum_in : StatValue V S → Option S
  sum_in (Flag b) = None
  sum_in (Element v) = None
  sum_in (Sum s) = Some s
  sum_in (Count n) = None

  abbrev pub count_in : StatValue V S → Option ℕ
  count_in (Flag b) = None
  count_in (Element v) = None
  count_in (Sum s) = None
  count_in (Count n) = Some n

  abbrev pub flag_claim : Claim V S → Precision Bool
  flag_claim = parted flag_in

  abbrev pub element_claim : Claim V S → Precision V
  element_claim = parted element_in

  abbrev pub sum_claim : Claim V S → Precision S
  sum_claim = parted sum_in

  abbrev pub count_claim : Claim V S → Precision ℕ
  count_claim = parted count_in

  abbrev pub stated : Stat → Claim V S → Statement V S
  stated s c = record { stat = s; claim = c }
