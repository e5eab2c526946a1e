-- Claims: what their methods give, case by case.
use Rattle.std.specs.Prelude.{◌≡◌, ℕ, Bool, true, false, List, Some, None, Ok, Err, codes, Option, Result}
use Rattle.std.specs.Fmt.{option_append}
use Rattle.precision.specs.declared.precision.Precision.{Precision}
use Rattle.precision.specs.declared.precision.Precision.TheVariants.{Exact, Inexact, Absent}

-- the value of a claim, of an exact one, of an inexact one
abbrev pub value_of : {A : Type 0} → Precision A → Option A
value_of (Exact v) = Some v
value_of (Inexact v) = Some v
value_of Absent = None

abbrev pub exact_of : {A : Type 0} → Precision A → Option A
exact_of (Exact v) = Some v
exact_of (Inexact v) = None
exact_of Absent = None

abbrev pub inexact_of : {A : Type 0} → Precision A → Option A
inexact_of (Exact v) = None
inexact_of (Inexact v) = Some v
inexact_of Absent = None

abbrev pub is_exact : {A : Type 0} → Precision A → Bool
is_exact (Exact v) = true
is_exact (Inexact v) = false
is_exact Absent = false

abbrev pub is_absent : {A : Type 0} → Precision A → Bool
is_absent (Exact v) = false
is_absent (Inexact v) = false
is_absent Absent = true

-- the claim made inexact
abbrev pub inexactly : {A : Type 0} → Precision A → Precision A
inexactly (Exact v) = Inexact v
inexactly (Inexact v) = Inexact v
inexactly Absent = Absent

-- the claim of what f gives of the value
abbrev pub mapped : {A B : Type 0} → (A → B) → Precision A → Precision B
mapped f (Exact v) = Exact (f v)
mapped f (Inexact v) = Inexact (f v)
mapped f Absent = Absent

-- two claims as the claim of a pair, exact only if both are
abbrev pub zipped : {A B : Type 0} → Precision A → Precision B → Precision (A × B)
zipped (Exact x) (Exact y) = Exact (x, y)
zipped (Exact x) (Inexact y) = Inexact (x, y)
zipped (Inexact x) (Exact y) = Inexact (x, y)
zipped (Inexact x) (Inexact y) = Inexact (x, y)
zipped (Exact x) Absent = Absent
zipped (Inexact x) Absent = Absent
zipped Absent (Exact y) = Absent
zipped Absent (Inexact y) = Absent
zipped Absent Absent = Absent

-- a claim of a result as the result of a claim
abbrev pub transposed : {A E : Type 0} → Precision (Result A E) → Result (Precision A) E
transposed (Exact (Ok v)) = Ok (Exact v)
transposed (Exact (Err e)) = Err e
transposed (Inexact (Ok v)) = Ok (Inexact v)
transposed (Inexact (Err e)) = Err e
transposed Absent = Ok Absent

-- a claim of a value of which P holds
abbrev pub Made : {A : Type 0} → (A → Type 0) → (A → Precision A) → Precision A → Type 0
Made {A} P claim c = (v : A) × P v × (c ≡ claim v)

-- what may be answered to whether a claim equals a value: what equals answers of an exact claim's value, and false of any other
abbrev pub Equals : {A : Type 0} → (A → A → Bool → Type 0) → Precision A → A → Bool → Type 0
Equals equals (Exact v) x r = equals v x r
Equals equals (Inexact v) x r = r ≡ false
Equals equals Absent x r = r ≡ false

-- how a claim is written, over how its value is: v, ~v or {empty}
abbrev pub text_of : {A : Type 0} → (A → Option (List ℕ)) → Precision A → Option (List ℕ)
text_of shown (Exact v) = shown v
text_of shown (Inexact v) = option_append (Some (codes "~")) (shown v)
text_of shown Absent = Some (codes "{empty}")
