-- Combining keeps truth: true entries combined with true statements stay true.
use Rattle.std.proofs.Common.{◌≡◌, ℕ, ◌*◌, ◌≤◌, List, [], ◌∷◌, length, Some, None, Option}
use Rattle.stat.specs.declared.Stat.{Stat}
use Rattle.stat.specs.declared.Stat.TheVariants.{IsConstant, IsSorted, IsStrictSorted, Max, Min, Sum as Total, NullCount, UncompressedSizeInBytes, NaNCount}
use Rattle.statement.specs.declared.StatValue.TheVariants.{Flag, Element, Sum, Count}
use Rattle.statement.specs.declared.Statement.{Statement}
use Rattle.order.specs.Order.{count_order, flag_order, below, above}
use Rattle.rules.specs.Column.{Column}
use Rattle.rules.specs.Rows.{Row, In, elements, nulls, NoTwoDiffer, NeverFall, AlwaysRise, NoneAbove, NoneBelow, number_total}
use Rattle.statement.specs.Kinds.{Claim, flag_claim, element_claim, sum_claim, count_claim}
use Rattle.stat_bound.specs.Bounds.{Says, Always}
use Rattle.rules.specs.Truth.{Tells, ClaimHolds, Holds, AllHold}
use Rattle.rules.specs.Sets.{Entries, got, has, put}
use Rattle.rules.specs.Combining.{intersected, joined, combined, taken}
use Rattle.rules.proofs.Claims.{InSome, flag_back, element_back, sum_back, count_back}
use Rattle.rules.proofs.Sets.{cond_either, every_put, got_holds}
use Rattle.rules.proofs.Meeting.{bound_met, precision_met}

module _ {V S : Type 0} (k : Column V S) (rows : List (Row V)) where
  flags_true : (P : Type 0) (x y : Claim V S) → Says (Tells P) Always (flag_claim x) → Says (Tells P) Always (flag_claim y) → InSome (λ c. Says (Tells P) Always (flag_claim c)) (intersected k IsConstant x y)
  flags_true P = precision_met flag_order Flag flag_claim (flag_back V S) (Says (Tells P) Always)

  counts_true : (exact inexact : ℕ → Type 0) (x y : Claim V S) → Says exact inexact (count_claim x) → Says exact inexact (count_claim y) → InSome (λ c. Says exact inexact (count_claim c)) (intersected k NullCount x y)
  counts_true exact inexact = bound_met count_order Count count_claim (count_back V S) (Says exact inexact) (above count_order) (below count_order)

  -- an intersection of two true claims is true
  pub intersected_holds : (s : Stat) (x y : Claim V S) → ClaimHolds k rows s x → ClaimHolds k rows s y → InSome (ClaimHolds k rows s) (intersected k s x y)
  intersected_holds IsConstant x y p q = flags_true (NoTwoDiffer rows) x y p q
  intersected_holds IsSorted x y p q = flags_true (NeverFall k.order (elements rows)) x y p q
  intersected_holds IsStrictSorted x y p q = flags_true (AlwaysRise k.order (elements rows)) x y p q
  intersected_holds Max x y p q =
      bound_met k.order Element element_claim (element_back V S)
      (Says (λ v. In v (elements rows) × NoneAbove k.order v (elements rows)) (λ v. NoneAbove k.order v (elements rows))) (above k.order) (below k.order) x y p q
  intersected_holds Min x y p q =
      bound_met k.order Element element_claim (element_back V S)
      (Says (λ v. In v (elements rows) × NoneBelow k.order v (elements rows)) (λ v. NoneBelow k.order v (elements rows))) (below k.order) (above k.order) x y p q
  intersected_holds Total x y p q =
      precision_met k.sum_order Sum sum_claim (sum_back V S) (Says (λ s. k.sums.total s ≡ number_total k.sums.number (elements rows)) Always) x y p q
  intersected_holds NullCount x y p q = counts_true (λ n. n ≡ nulls rows) (λ n. nulls rows ≤ n) x y p q
  intersected_holds UncompressedSizeInBytes x y p q = counts_true (λ n. n ≡ length rows * k.sums.width) (λ n. length rows * k.sums.width ≤ n) x y p q
  intersected_holds NaNCount x y p q = counts_true (λ n. n ≡ 0) Always x y p q

  pub joined_holds : (es : Entries V S) (s : Statement V S) → AllHold k rows es → Holds k rows s → InSome (ClaimHolds k rows s.stat) (joined k es s)
  joined_holds es s h p =
      cond_either (InSome (ClaimHolds k rows s.stat)) (has es s.stat) (intersected k s.stat (got es s.stat) s.claim) (Some s.claim)
      (intersected_holds s.stat (got es s.stat) s.claim (got_holds k rows es s.stat h) p)
      p

  pub combined_holds : (told : List (Statement V S)) (es : Entries V S) → AllHold k rows es → AllHold k rows (taken k told es) → AllHold k rows (combined k told es)
  combined_holds [] es h t = h
  combined_holds (s ∷ ss) es h t = step (joined k es s) (joined_holds es s h) (λ c. combined_holds ss (put es s.stat c)) t
    where
      step : (o : Option (Claim V S))
          → (Holds k rows s → InSome (ClaimHolds k rows s.stat) o)
          → ((c : Claim V S) → AllHold k rows (put es s.stat c) → AllHold k rows (taken k ss (put es s.stat c)) → AllHold k rows (combined k ss (put es s.stat c)))
          → AllHold k rows (elim o [ Some c ↦ s ∷ taken k ss (put es s.stat c) | None ↦ [] ])
          → AllHold k rows (elim o [ Some c ↦ combined k ss (put es s.stat c) | None ↦ es ])
      step (Some c) true_claim more t = more c (every_put (Holds k rows) es s.stat c h (true_claim t.0)) t.1
      step None true_claim more t = h
