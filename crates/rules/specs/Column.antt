-- What the rules need to know of a column's element type V, whose sums are of type S.
use Rattle.std.specs.Prelude.{◌≡◌, ℕ, ◌≤◌, Bool, true, ℤ, pos, ◌+ℤ◌, Some, None, Option, ◌≢◌}
use Rattle.std.specs.declared.cmp.Ordering.{Ordering}
use Rattle.order.specs.Order.{OrderLaws}

-- an element's width; whether there are sums; the whole numbers that elements and sums stand for; the sum of nothing, of one element, of two sums
pub record Sums (V S : Type 0) : Type 0 where
  pub width : ℕ
  pub has_sums : Bool
  pub number : V → ℤ
  pub total : S → ℤ
  pub zero : S
  pub single : V → S
  pub plus : S → S → Option S

-- the sum of the total where there is one, and nothing where there is none
abbrev pub Adds : {S : Type 0} → (S → ℤ) → S → S → Option S → Type 0
Adds total s t (Some u) = total u ≡ total s +ℤ total t
Adds {S} total s t None = (u : S) → total u ≢ total s +ℤ total t

pub record SumLaws {V S : Type 0} (k : Sums V S) : Type 0 where
  pub apart : (s t : S) → k.total s ≡ k.total t → s ≡ t
  pub none : k.total k.zero ≡ pos 0
  pub one : (v : V) → k.total (k.single v) ≡ k.number v
  pub adds : (s t : S) → Adds k.total s t (k.plus s t)

-- a column as the rules see it: its orders, and its sums
pub record Column (V S : Type 0) : Type 0 where
  pub order : V → V → Ordering
  pub sum_order : S → S → Ordering
  pub sums : Sums V S

abbrev pub column : {V S : Type 0} → (V → V → Ordering) → (S → S → Ordering) → Sums V S → Column V S
column order sum_order sums = record { order = order; sum_order = sum_order; sums = sums }

pub record ColumnLaws {V S : Type 0} (k : Column V S) : Type 0 where
  pub ordered : OrderLaws k.order
  pub sums_ordered : OrderLaws k.sum_order
  pub narrow : (1 ≤ k.sums.width) × (k.sums.width ≤ 16)
  pub summed : k.sums.has_sums ≡ true → SumLaws k.sums
