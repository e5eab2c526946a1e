-- Rows: each is null or an element.
use Rattle.std.specs.Prelude.{◌≡◌, ℕ, ◌+◌, true, false, List, [], ◌∷◌, ℤ, pos, ◌+ℤ◌, Some, None, Option}
use Rattle.std.specs.declared.cmp.Ordering.{Ordering}
pub use Rattle.std.specs.List.{AllByRecursion as Every}
use Rattle.order.specs.Order.{below, above}

abbrev pub Row : Type 0 → Type 0
Row V = Option V

pub data In {X : Type 0} (x : X) : List X → Type 0 where
  here : {xs : List X} → In x (x ∷ xs)
  later : {y : X} {xs : List X} → In x xs → In x (y ∷ xs)

-- the elements, nulls left out
abbrev pub elements : {V : Type 0} → List (Row V) → List V
elements [] = []
elements (None ∷ rows) = elements rows
elements (Some v ∷ rows) = v ∷ elements rows

-- how many are null
abbrev pub nulls : {V : Type 0} → List (Row V) → ℕ
nulls [] = 0
nulls (None ∷ rows) = 1 + nulls rows
nulls (Some v ∷ rows) = nulls rows

-- each is so related to the next
abbrev pub Steps : {X : Type 0} → (X → X → Type 0) → List X → Type 0
Steps R [] = Unit {0}
Steps R (x ∷ []) = Unit {0}
Steps R (x ∷ y ∷ xs) = R x y × Steps R (y ∷ xs)

abbrev pub NoTwoDiffer : {X : Type 0} → List X → Type 0
NoTwoDiffer {X} xs = (x y : X) → In x xs → In y xs → x ≡ y

-- the total of the elements' numbers
abbrev pub number_total : {V : Type 0} → (V → ℤ) → List V → ℤ
number_total number [] = pos 0
number_total number (v ∷ vs) = number v +ℤ number_total number vs

module _ {V : Type 0} (order : V → V → Ordering) where
  abbrev pub NeverFall : List V → Type 0
  NeverFall = Steps (λ x y. above order x y ≡ false)

  abbrev pub AlwaysRise : List V → Type 0
  AlwaysRise = Steps (λ x y. below order x y ≡ true)

  abbrev pub NoneAbove : V → List V → Type 0
  NoneAbove v = Every (λ x. above order x v ≡ false)

  abbrev pub NoneBelow : V → List V → Type 0
  NoneBelow v = Every (λ x. below order x v ≡ false)
