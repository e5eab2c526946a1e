-- What a call that declines returns: one number and at most one value for each case.
use Rattle.std.specs.Prelude.{ℕ, List, ◌++◌, Some, None, Ok, Err, codes, decimal, Option, Result}
use Rattle.stat.specs.Stats.{stat_number}
use Rattle.refusal.specs.declared.Refusal.{Refusal}
use Rattle.refusal.specs.declared.Refusal.TheVariants.{WrongKind, Contradiction, NoZone, SameZone, CellsFull, RecordsFull, NoOpenRow, ShortBuffer}

abbrev pub refusal_number : Refusal → ℕ
refusal_number WrongKind = 1
refusal_number (Contradiction s) = 2
refusal_number (NoZone n) = 3
refusal_number SameZone = 4
refusal_number CellsFull = 5
refusal_number RecordsFull = 6
refusal_number NoOpenRow = 7
refusal_number ShortBuffer = 8

abbrev pub refusal_value : Refusal → Option ℕ
refusal_value WrongKind = None
refusal_value (Contradiction s) = Some (stat_number s)
refusal_value (NoZone n) = Some n
refusal_value SameZone = None
refusal_value CellsFull = None
refusal_value RecordsFull = None
refusal_value NoOpenRow = None
refusal_value ShortBuffer = None

-- what a call answers: nothing where it does not decline, else the number and the value
pub record Declined : Type 0 where
  pub number : ℕ
  pub value : Option ℕ

abbrev pub declined : ℕ → Option ℕ → Option Declined
declined n v = Some (record { number = n; value = v })

abbrev pub refused : {A : Type 0} → Result A Refusal → Option Declined
refused (Ok x) = None
refused (Err r) = declined (refusal_number r) (refusal_value r)

-- how it is written
abbrev pub refusal_text : ℕ → Option ℕ → List ℕ
refusal_text n (Some v) = codes "refused " ++ (decimal n ++ (codes " " ++ decimal v))
refusal_text n None = codes "refused " ++ decimal n
