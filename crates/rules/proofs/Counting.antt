-- Counting tells the truth: each claim that counting sets is true of the rows counted.
use Rattle.std.proofs.Common.{◌*◌, ◌^◌, ltb, List, [], length, Some, refl}
use Rattle.std.proofs.lemmas.Bool.{cond_both}
use Rattle.stat.specs.declared.Stat.{Stat}
use Rattle.stat.specs.declared.Stat.TheVariants.{IsConstant, IsSorted, IsStrictSorted, Max, Min, Sum as Total, NullCount, UncompressedSizeInBytes, NaNCount}
use Rattle.precision.specs.declared.precision.Precision.TheVariants.{Exact, Absent}
use Rattle.statement.specs.declared.StatValue.TheVariants.{Sum, Count}
use Rattle.order.specs.Order.{below, above}
use Rattle.rules.specs.Column.{Column, ColumnLaws}
use Rattle.rules.specs.Rows.{Row, elements, NoneAbove, NoneBelow}
use Rattle.precision.specs.Claims.{mapped}
use Rattle.rules.specs.Truth.{ClaimHolds, Holds, AllHold}
use Rattle.rules.specs.Merging.{exactly}
use Rattle.rules.specs.Counting.{summed, counted_claim, counted}
use Rattle.order.proofs.Orders.{below_strict, above_strict}
use Rattle.rules.proofs.Claims.{element_back, sum_back}
use Rattle.rules.proofs.Telling.{all_same_told, sorted_told, strictly_told}
use Rattle.rules.proofs.Best.{best_said}
use Rattle.rules.proofs.Totals.{total_said}
use Rattle.rules.proofs.Sets.{cond_either, every_put_nine}

module _ {V S : Type 0} (k : Column V S) (laws : ColumnLaws k) (rows : List (Row V)) where
  pub counted_claim_holds : (s : Stat) → ClaimHolds k rows s (counted_claim k rows s)
  counted_claim_holds IsConstant = all_same_told k.order laws.ordered rows
  counted_claim_holds IsSorted = sorted_told k.order (elements rows)
  counted_claim_holds IsStrictSorted = strictly_told k.order (elements rows)
  counted_claim_holds Max = rw (element_back V S) (best_said (above k.order) (below k.order) (above_strict k.order laws.ordered) (λ v. NoneAbove k.order v (elements rows)) (elements rows))
  counted_claim_holds Min = rw (element_back V S) (best_said (below k.order) (above k.order) (below_strict k.order laws.ordered) (λ v. NoneBelow k.order v (elements rows)) (elements rows))
  counted_claim_holds Total =
      cond_both k.sums.has_sums (mapped Sum (exactly (summed k (Some k.sums.zero) (elements rows)))) Absent (ClaimHolds k rows Total)
      (λ e. rw (sum_back V S) (total_said k (laws.summed e) (elements rows)))
      (λ e. tt)
  counted_claim_holds NullCount = refl
  counted_claim_holds UncompressedSizeInBytes =
      cond_either (ClaimHolds k rows UncompressedSizeInBytes) (ltb (length rows * k.sums.width) (2 ^ 64)) (Exact (Count (length rows * k.sums.width))) Absent refl tt
  counted_claim_holds NaNCount = refl

  pub counted_holds : AllHold k rows (counted k rows)
  counted_holds = every_put_nine (counted_claim k rows) (Holds k rows) (λ s a. counted_claim_holds s) []
