-- Orders: any two values compare as below, equal or above.
use Rattle.std.specs.Prelude.{◌≡◌, ℕ, Bool, true, false, cond, ◌⊎◌, ℤ, int_lt, nat_lt}
use Rattle.std.specs.declared.cmp.Ordering.TheVariants.{Less, Equal, Greater}
use Rattle.std.specs.declared.cmp.Ordering.{Ordering}
use Rattle.std.specs.Ordering.{is_lt, is_eq, is_gt, ordering_reverse}

-- total and transitive, and equal means the same value
pub record OrderLaws {V : Type 0} (order : V → V → Ordering) : Type 0 where
  pub same : (x y : V) → order x y ≡ Equal → x ≡ y
  pub itself : (x : V) → order x x ≡ Equal
  pub both_ways : (x y : V) → order y x ≡ ordering_reverse (order x y)
  pub through : (x y z : V) → order x y ≡ Less → order y z ≡ Less → order x z ≡ Less

module _ {V : Type 0} (order : V → V → Ordering) where
  abbrev pub below : V → V → Bool
  below x y = is_lt (order x y)

  abbrev pub same : V → V → Bool
  same x y = is_eq (order x y)

  abbrev pub above : V → V → Bool
  above x y = is_gt (order x y)

  -- of two values the lesser, the greater
  abbrev pub lesser : V → V → V
  lesser x y = cond (below x y) x y

  abbrev pub greater : V → V → V
  greater x y = cond (above x y) x y

-- the lesser and the greater of two by what they are: one of the two, and neither is below it, or above it
pub record Lowest {V : Type 0} (order : V → V → Ordering) (x y m : V) : Type 0 where
  pub among : (m ≡ x) ⊎ (m ≡ y)
  pub first : below order x m ≡ false
  pub second : below order y m ≡ false

pub record Highest {V : Type 0} (order : V → V → Ordering) (x y m : V) : Type 0 where
  pub among : (m ≡ x) ⊎ (m ≡ y)
  pub first : above order x m ≡ false
  pub second : above order y m ≡ false

-- false is below true
abbrev pub flag_order : Bool → Bool → Ordering
flag_order false false = Equal
flag_order false true = Less
flag_order true false = Greater
flag_order true true = Equal

-- the orders of whole numbers, without and with a sign
abbrev pub count_order : ℕ → ℕ → Ordering
count_order x y = cond (nat_lt x y) Less (cond (nat_lt y x) Greater Equal)

abbrev pub integer_order : ℤ → ℤ → Ordering
integer_order x y = cond (int_lt x y) Less (cond (int_lt y x) Greater Equal)
