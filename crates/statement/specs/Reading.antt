-- How claims and statements are read.
use Rattle.std.specs.Prelude.{◌≡◌, ℕ, Bool, List, Some, None, Ok, Err, Option, Result}
use Rattle.std.specs.declared.num.ParseIntError.{ParseIntError}
use Rattle.std.specs.declared.str.ParseBoolError.{ParseBoolError}
use Rattle.std.specs.Str.Parse.{ExplainsUnsignedError, ParsesUnsigned, HasUnsignedDigitsIfOk, ParsesBool}
use Rattle.std.specs.Result.{result_ok}
use Rattle.precision.specs.declared.precision.Precision.{Precision}
use Rattle.precision.specs.Claims.{mapped}
use Rattle.precision.specs.Texts.{ReadsClaim}
use Rattle.stat.specs.declared.Stat.{Stat}
use Rattle.stat.specs.declared.Stat.TheVariants.{IsConstant, IsSorted, IsStrictSorted, Max, Min, Sum as Total, NullCount, UncompressedSizeInBytes, NaNCount}
use Rattle.stat.specs.declared.ParseStatError.{ParseStatError}
use Rattle.stat.specs.Stats.{ReadsStat}
use Rattle.statement.specs.declared.StatValue.TheVariants.{Flag, Element, Sum, Count}
use Rattle.statement.specs.declared.Statement.{Statement}
use Rattle.statement.specs.declared.text.ParseStatementError.{ParseStatementError}
use Rattle.statement.specs.declared.text.ParseStatementError.TheVariants.{NoSign, NoStat, NoClaim}
use Rattle.statement.specs.Kinds.{Claim, stated}
use Rattle.statement.specs.Parting.{Parted}

-- the claim of what a text is read as, by a reader of values; nothing where that fails
abbrev pub ReadsAs : {A E : Type 0} → (List ℕ → Result A E → Type 0) → List ℕ → Option (Precision A) → Type 0
ReadsAs {A} {E} reads bs r = (q : Result (Precision A) E) × ReadsClaim reads bs q × (r ≡ result_ok q)

abbrev pub mapped_some : {A B : Type 0} → (A → B) → Option (Precision A) → Option (Precision B)
mapped_some f (Some c) = Some (mapped f c)
mapped_some f None = None

-- and put under a kind
abbrev pub ReadsKind : {A B E : Type 0} → (A → B) → (List ℕ → Result A E → Type 0) → List ℕ → Option (Precision B) → Type 0
ReadsKind {A} f reads bs r = (c : Option (Precision A)) × ReadsAs reads bs c × (r ≡ mapped_some f c)

-- what `bool` reads of a text
abbrev pub ReadsFlag : List ℕ → Result Bool ParseBoolError → Type 0
ReadsFlag bs r = ParsesBool bs r

-- what `u64` reads of a text
abbrev pub ReadsU64 : List ℕ → Result ℕ ParseIntError → Type 0
ReadsU64 bs r = ParsesUnsigned 64 10 bs r × ExplainsUnsignedError 10 bs r × HasUnsignedDigitsIfOk bs r

module _ {V S D E : Type 0} (element : List ℕ → Result V D → Type 0) (sum : List ℕ → Result S E → Type 0) where
  -- a claim is read by its statistic's kind
  abbrev pub ReadsOf : Stat → List ℕ → Option (Claim V S) → Type 0
  ReadsOf IsConstant bs r = ReadsKind Flag ReadsFlag bs r
  ReadsOf IsSorted bs r = ReadsKind Flag ReadsFlag bs r
  ReadsOf IsStrictSorted bs r = ReadsKind Flag ReadsFlag bs r
  ReadsOf Max bs r = ReadsKind Element element bs r
  ReadsOf Min bs r = ReadsKind Element element bs r
  ReadsOf Total bs r = ReadsKind Sum sum bs r
  ReadsOf NullCount bs r = ReadsKind Count ReadsU64 bs r
  ReadsOf UncompressedSizeInBytes bs r = ReadsKind Count ReadsU64 bs r
  ReadsOf NaNCount bs r = ReadsKind Count ReadsU64 bs r

  -- the statement of a claim, where there is one
  abbrev pub stated_of : Stat → Option (Claim V S) → Result (Statement V S) ParseStatementError
  stated_of s (Some c) = Ok (stated s c)
  stated_of s None = Err NoClaim

  -- the claim behind a name, by the statistic that has the name
  abbrev pub ReadsNamed : Result Stat ParseStatError → List ℕ → Result (Statement V S) ParseStatementError → Type 0
  ReadsNamed (Ok s) bs r = (c : Option (Claim V S)) × ReadsOf s bs c × (r ≡ stated_of s c)
  ReadsNamed (Err e) bs r = r ≡ Err NoStat

  -- a name and a claim
  abbrev pub ReadsParts : List ℕ → List ℕ → Result (Statement V S) ParseStatementError → Type 0
  ReadsParts name claim r = (found : Result Stat ParseStatError) × ReadsStat name found × ReadsNamed found claim r

  -- a statement is parted at its first `=`, whose code is 61
  abbrev pub ReadsStatement : List ℕ → Result (Statement V S) ParseStatementError → Type 0
  ReadsStatement = Parted 61 (λ r. r ≡ Err NoSign) ReadsParts
