-- Claims read by kind, and what is true of every claim of a kind.
use Rattle.std.proofs.Common.{◌≡◌, ℕ, Bool, true, false, List, Some, None, Option, refl, ap}
use Rattle.std.proofs.lemmas.Bool.{true≢false, false≢true, and_parts, and_from}
use Rattle.stat.specs.declared.Stat.{Stat}
use Rattle.stat.specs.declared.Stat.TheVariants.{IsConstant, IsSorted, IsStrictSorted, Max, Min, Sum as Total, NullCount, UncompressedSizeInBytes, NaNCount}
use Rattle.precision.specs.declared.precision.Precision.{Precision}
use Rattle.precision.specs.declared.precision.Precision.TheVariants.{Exact, Inexact, Absent}
use Rattle.statement.specs.declared.StatValue.{StatValue}
use Rattle.statement.specs.declared.StatValue.TheVariants.{Flag, Element, Sum, Count}
use Rattle.rules.specs.Column.{Column}
use Rattle.rules.specs.Rows.{Row}
use Rattle.rules.specs.Claims.{some?, takes, settable}
use Rattle.statement.specs.Kinds.{Claim, claimed, parted, flag_in, element_in, sum_in, count_in, flag_claim, element_claim, sum_claim, count_claim}
use Rattle.precision.specs.Claims.{mapped, is_absent}
use Rattle.rules.specs.Truth.{ClaimHolds}

-- what P says of a value, if there is one
abbrev pub InSome : {A : Type 0} → (A → Type 0) → Option A → Type 0
InSome P (Some x) = P x
InSome P None = Unit {0}

pub in_some : {A : Type 0} (P Q : A → Type 0) → ((x : A) → P x → Q x) → (o : Option A) → InSome P o → InSome Q o
in_some P Q f (Some x) h = f x h
in_some P Q f None h = tt

pub some_always : {A P : Type 0} → P → (o : Option A) → InSome (λ x. P) o
some_always p (Some x) = p
some_always p None = tt

-- a claim put under a kind and read by that kind is the claim
parted_mapped : {A B : Type 0} (f : A → B) (part : B → Option A) → ((x : A) → part (f x) ≡ Some x) → (c : Precision A) → parted part (mapped f c) ≡ c
parted_mapped f part back (Exact x) = ap (claimed true) (back x)
parted_mapped f part back (Inexact x) = ap (claimed false) (back x)
parted_mapped f part back Absent = refl

module _ (V S : Type 0) where
  pub flag_back : (c : Precision Bool) → flag_claim {V = V} {S = S} (mapped Flag c) ≡ c
  flag_back = parted_mapped Flag flag_in (λ x. refl)

  pub element_back : (c : Precision V) → element_claim {V = V} {S = S} (mapped Element c) ≡ c
  element_back = parted_mapped Element element_in (λ x. refl)

  pub sum_back : (c : Precision S) → sum_claim {V = V} {S = S} (mapped Sum c) ≡ c
  sum_back = parted_mapped Sum sum_in (λ x. refl)

  pub count_back : (c : Precision ℕ) → count_claim {V = V} {S = S} (mapped Count c) ≡ c
  count_back = parted_mapped Count count_in (λ x. refl)

-- an Absent claim is true of all rows
pub absent_holds : {V S : Type 0} (k : Column V S) (rows : List (Row V)) (s : Stat) → ClaimHolds k rows s Absent
absent_holds k rows IsConstant = tt
absent_holds k rows IsSorted = tt
absent_holds k rows IsStrictSorted = tt
absent_holds k rows Max = tt
absent_holds k rows Min = tt
absent_holds k rows Total = tt
absent_holds k rows NullCount = tt
absent_holds k rows UncompressedSizeInBytes = tt
absent_holds k rows NaNCount = tt

-- a claim that `set` takes has a value of its kind
claimed_there : {B : Type 0} (exact : Bool) (o : Option B) → some? o ≡ true → is_absent (claimed exact o) ≡ false
claimed_there true (Some x) h = refl
claimed_there false (Some x) h = refl
claimed_there true None h = absurd (false≢true h)
claimed_there false None h = absurd (false≢true h)

settable_there : {V S B : Type 0} (sums : Bool) (s : Stat) (part : StatValue V S → Option B) → ((v : StatValue V S) → takes sums s v ≡ true → some? (part v) ≡ true) → (c : Claim V S) → settable sums s c ≡ true → is_absent (parted part c) ≡ false
settable_there sums s part kind (Exact v) h = claimed_there true (part v) (kind v h)
settable_there sums s part kind (Inexact v) h = claimed_there false (part v) (kind v h)
settable_there sums s part kind Absent h = absurd (false≢true h)

-- and there are sums, if it is one
pub settable_sums : {V S : Type 0} (sums : Bool) (c : Claim V S) → settable sums Total c ≡ true → sums ≡ true
settable_sums sums (Exact v) h = (and_parts sums (some? (sum_in v)) h).0
settable_sums sums (Inexact v) h = (and_parts sums (some? (sum_in v)) h).0
settable_sums sums Absent h = absurd (false≢true h)

-- and the other way round
there_claimed : {B : Type 0} (exact : Bool) (o : Option B) → is_absent (claimed exact o) ≡ false → some? o ≡ true
there_claimed true (Some x) h = refl
there_claimed false (Some x) h = refl
there_claimed true None h = absurd (true≢false h)
there_claimed false None h = absurd (true≢false h)

there_settable : {V S B : Type 0} (sums : Bool) (s : Stat) (part : StatValue V S → Option B) → ((v : StatValue V S) → some? (part v) ≡ true → takes sums s v ≡ true) → (c : Claim V S) → is_absent (parted part c) ≡ false → settable sums s c ≡ true
there_settable sums s part kind (Exact v) h = kind v (there_claimed true (part v) h)
there_settable sums s part kind (Inexact v) h = kind v (there_claimed false (part v) h)
there_settable sums s part kind Absent h = absurd (true≢false h)

-- a claim of a kind of which `set` takes every value
pub kind_settable : {V S B : Type 0} (sums : Bool) (s : Stat) (kind : B → StatValue V S) → ((v : B) → takes sums s (kind v) ≡ true) → (c : Precision B) → is_absent (mapped kind c) ≡ false → settable sums s (mapped kind c) ≡ true
kind_settable sums s kind every (Exact v) h = every v
kind_settable sums s kind every (Inexact v) h = every v
kind_settable sums s kind every Absent h = absurd (true≢false h)

module _ {V S : Type 0} (sums : Bool) (c : Claim V S) where
  pub flag_there : settable sums IsConstant c ≡ true → is_absent (flag_claim c) ≡ false
  flag_there = settable_there sums IsConstant flag_in (λ v h. h) c

  pub element_there : settable sums Max c ≡ true → is_absent (element_claim c) ≡ false
  element_there = settable_there sums Max element_in (λ v h. h) c

  pub sum_there : settable sums Total c ≡ true → is_absent (sum_claim c) ≡ false
  sum_there = settable_there sums Total sum_in (λ v h. (and_parts sums (some? (sum_in v)) h).1) c

  pub count_there : settable sums NullCount c ≡ true → is_absent (count_claim c) ≡ false
  count_there = settable_there sums NullCount count_in (λ v h. h) c

  pub flag_settable : is_absent (flag_claim c) ≡ false → settable sums IsConstant c ≡ true
  flag_settable = there_settable sums IsConstant flag_in (λ v h. h) c

  pub element_settable : is_absent (element_claim c) ≡ false → settable sums Max c ≡ true
  element_settable = there_settable sums Max element_in (λ v h. h) c

  pub sum_settable : sums ≡ true → is_absent (sum_claim c) ≡ false → settable sums Total c ≡ true
  sum_settable e = there_settable sums Total sum_in (λ v h. and_from sums (some? (sum_in v)) e h) c

  pub count_settable : is_absent (count_claim c) ≡ false → settable sums NullCount c ≡ true
  count_settable = there_settable sums NullCount count_in (λ v h. h) c
