-- Counting rows: each statistic's true exact claim, where it has one.
use Rattle.std.specs.Prelude.{◌≡◌, ℕ, ◌*◌, ◌^◌, Bool, true, false, cond, ◌&&◌, List, [], ◌∷◌, length, take, Some, None, Option, nat_lt}
use Rattle.std.specs.declared.cmp.Ordering.{Ordering}
use Rattle.stat.specs.declared.Stat.{Stat}
use Rattle.stat.specs.declared.Stat.TheVariants.{IsConstant, IsSorted, IsStrictSorted, Max, Min, Sum as Total, NullCount, UncompressedSizeInBytes, NaNCount}
use Rattle.precision.specs.declared.precision.Precision.TheVariants.{Exact, Absent}
use Rattle.statement.specs.declared.StatValue.TheVariants.{Flag, Element, Sum, Count}
use Rattle.order.specs.Order.{below, above, same, lesser, greater}
use Rattle.rules.specs.Column.{Column}
use Rattle.rules.specs.Rows.{Row, elements, nulls, number_total}
use Rattle.rules.specs.Claims.{some?}
use Rattle.statement.specs.Kinds.{Claim}
use Rattle.precision.specs.Claims.{mapped}
use Rattle.rules.specs.Sets.{Entries, put}
use Rattle.stat.specs.Stats.{all_stats}
use Rattle.rules.specs.Merging.{exactly}

abbrev pub same_row : {V : Type 0} → (V → V → Ordering) → Row V → Row V → Bool
same_row order None None = true
same_row order None (Some y) = false
same_row order (Some x) None = false
same_row order (Some x) (Some y) = same order x y

abbrev pub all_same : {V : Type 0} → (V → V → Ordering) → List (Row V) → Bool
all_same order [] = true
all_same order (r ∷ []) = true
all_same order (r ∷ s ∷ rows) = same_row order r s && all_same order (s ∷ rows)

abbrev pub in_steps : {V : Type 0} → (V → V → Bool) → List V → Bool
in_steps ok [] = true
in_steps ok (x ∷ []) = true
in_steps ok (x ∷ y ∷ vs) = ok x y && in_steps ok (y ∷ vs)

-- the best by a choice between two
abbrev pub best : {V : Type 0} → (V → V → V) → List V → Option V
best pick [] = None
best pick (x ∷ []) = Some x
best pick (x ∷ y ∷ vs) = best pick (pick x y ∷ vs)

-- the running total, while it fits
abbrev pub summed : {V S : Type 0} → Column V S → Option S → List V → Option S
summed k (Some s) [] = Some s
summed k None [] = None
summed k (Some s) (v ∷ vs) = summed k (k.sums.plus s (k.sums.single v)) vs
summed k None (v ∷ vs) = None

-- every running total has a sum
abbrev pub RunningFits : {V S : Type 0} → Column V S → List V → Type 0
RunningFits {V} {S} k vs = (n : ℕ) → (s : S) × (k.sums.total s ≡ number_total k.sums.number (take n vs))

abbrev pub any_element : {V : Type 0} → List V → Bool
any_element [] = false
any_element (v ∷ vs) = true

module _ {V S : Type 0} (k : Column V S) (rows : List (Row V)) where
  abbrev pub counted_claim : Stat → Claim V S
  counted_claim IsConstant = Exact (Flag (all_same k.order rows))
  counted_claim IsSorted = Exact (Flag (in_steps (λ x y. cond (above k.order x y) false true) (elements rows)))
  counted_claim IsStrictSorted = Exact (Flag (in_steps (below k.order) (elements rows)))
  counted_claim Max = mapped Element (exactly (best (greater k.order) (elements rows)))
  counted_claim Min = mapped Element (exactly (best (lesser k.order) (elements rows)))
  counted_claim Total = cond k.sums.has_sums (mapped Sum (exactly (summed k (Some k.sums.zero) (elements rows)))) Absent
  counted_claim NullCount = Exact (Count (nulls rows))
  counted_claim UncompressedSizeInBytes = cond (nat_lt (length rows * k.sums.width) (2 ^ 64)) (Exact (Count (length rows * k.sums.width))) Absent
  counted_claim NaNCount = Exact (Count 0)

  abbrev pub counted_over : List Stat → Entries V S → Entries V S
  counted_over [] es = es
  counted_over (s ∷ ss) es = counted_over ss (put es s (counted_claim s))

  abbrev pub counted : Entries V S
  counted = counted_over all_stats []

  -- whether counting sets the statistic: Max and Min if there is an element, Sum if there are sums and the running total fits, the size below 2 ^ 64
  abbrev pub is_counted : Stat → Bool
  is_counted IsConstant = true
  is_counted IsSorted = true
  is_counted IsStrictSorted = true
  is_counted Max = any_element (elements rows)
  is_counted Min = any_element (elements rows)
  is_counted Total = k.sums.has_sums && some? (summed k (Some k.sums.zero) (elements rows))
  is_counted NullCount = true
  is_counted UncompressedSizeInBytes = nat_lt (length rows * k.sums.width) (2 ^ 64)
  is_counted NaNCount = true
