-- When a claim is true of rows.
use Rattle.std.specs.Prelude.{◌≡◌, ◌*◌, ◌≤◌, Bool, true, false, List, length}
use Rattle.stat.specs.declared.Stat.{Stat}
use Rattle.stat.specs.declared.Stat.TheVariants.{IsConstant, IsSorted, IsStrictSorted, Max, Min, Sum, NullCount, UncompressedSizeInBytes, NaNCount}
use Rattle.stat_bound.specs.Bounds.{Says, Always}
use Rattle.statement.specs.declared.Statement.{Statement}
use Rattle.rules.specs.Column.{Column}
use Rattle.rules.specs.Rows.{Row, In, Every, elements, nulls, NoTwoDiffer, NeverFall, AlwaysRise, NoneAbove, NoneBelow, number_total}
use Rattle.statement.specs.Kinds.{Claim, flag_claim, element_claim, sum_claim, count_claim}

-- the flag tells whether P
abbrev pub Tells : Type 0 → Bool → Type 0
Tells P true = P
Tells P false = P → ⊥

module _ {V S : Type 0} (k : Column V S) (rows : List (Row V)) where
  abbrev pub ClaimHolds : Stat → Claim V S → Type 0
  ClaimHolds IsConstant c = Says (Tells (NoTwoDiffer rows)) Always (flag_claim c)
  ClaimHolds IsSorted c = Says (Tells (NeverFall k.order (elements rows))) Always (flag_claim c)
  ClaimHolds IsStrictSorted c = Says (Tells (AlwaysRise k.order (elements rows))) Always (flag_claim c)
  ClaimHolds Max c = Says (λ v. In v (elements rows) × NoneAbove k.order v (elements rows)) (λ v. NoneAbove k.order v (elements rows)) (element_claim c)
  ClaimHolds Min c = Says (λ v. In v (elements rows) × NoneBelow k.order v (elements rows)) (λ v. NoneBelow k.order v (elements rows)) (element_claim c)
  ClaimHolds Sum c = Says (λ s. k.sums.total s ≡ number_total k.sums.number (elements rows)) Always (sum_claim c)
  ClaimHolds NullCount c = Says (λ n. n ≡ nulls rows) (λ n. nulls rows ≤ n) (count_claim c)
  ClaimHolds UncompressedSizeInBytes c = Says (λ n. n ≡ length rows * k.sums.width) (λ n. length rows * k.sums.width ≤ n) (count_claim c)
  ClaimHolds NaNCount c = Says (λ n. n ≡ 0) Always (count_claim c)

  abbrev pub Holds : Statement V S → Type 0
  Holds s = ClaimHolds s.stat s.claim

  abbrev pub AllHold : List (Statement V S) → Type 0
  AllHold = Every Holds
