-- Filling a set with the claims of a tally, and what counting owes by that.
use Rattle.std.proofs.Common.{◌≡◌, ℕ, ◌+◌, ◌*◌, ◌^◌, ◌<◌, Bool, true, false, cond, ◌&&◌, ltb, List, [], ◌∷◌, length, get_or, take, Some, fold, Ordering, sym, refl, ap, ◌∙◌, subst}
use Rattle.std.proofs.lemmas.List.Sums.{fold_more}
use Rattle.std.proofs.lemmas.Bool.{cond-true}
use Rattle.precision.specs.declared.precision.Precision.{Precision}
use Rattle.precision.specs.declared.precision.Precision.TheVariants.{Exact, Inexact, Absent}
use Rattle.precision.specs.Claims.{mapped}
use Rattle.stat.specs.declared.Stat.{Stat}
use Rattle.stat.specs.declared.Stat.TheVariants.{IsConstant, IsSorted, IsStrictSorted, Max, Min, Sum as Total, NullCount, UncompressedSizeInBytes, NaNCount}
use Rattle.stat.specs.Stats.{all_stats}
use Rattle.statement.specs.declared.StatValue.{StatValue}
use Rattle.statement.specs.declared.StatValue.TheVariants.{Element, Sum, Count}
use Rattle.rules.specs.Column.{Column, ColumnLaws, Sums}
use Rattle.rules.specs.Rows.{Row, elements}
use Rattle.rules.specs.Claims.{some?, takes, may_set}
use Rattle.statement.specs.Kinds.{Claim}
use Rattle.rules.specs.Truth.{Tells, AllHold}
use Rattle.rules.specs.Merging.{exactly}
use Rattle.rules.specs.Sets.{Entries, put, stats_of, has}
use Rattle.rules.specs.Counting.{counted_claim, counted, summed, RunningFits}
use Rattle.rules.proofs.Counted.{counted_stats, counted_has}
use Rattle.rules.proofs.Counting.{counted_holds}
use Rattle.rules.proofs.Totals.{running_told}
use Rattle.counting.specs.declared.tally.Tally.{Tally}
use Rattle.counting.specs.Tallied.{least_of, most_of, fresh, tally_claim, all_put}
use Rattle.counting.specs.Counted.{Counts}
use Rattle.counting.proofs.Running.{run, tally_is}

-- a claim of a value of the statistic's kind may be set
may_mapped : {A V S : Type 0} (sums : Bool) (s : Stat) (f : A → StatValue V S) → ((v : A) → takes sums s (f v) ≡ true) → (c : Precision A) → may_set sums s (mapped f c) ≡ true
may_mapped sums s f each (Exact v) = each v
may_mapped sums s f each (Inexact v) = each v
may_mapped sums s f each Absent = refl

module _ {V S : Type 0} (order : V → V → Ordering) (sums : Sums V S) (t : Tally V S) (n : ℕ) where
  pub tally_may : (s : Stat) → may_set sums.has_sums s (tally_claim order sums t n s) ≡ true
  tally_may IsConstant = refl
  tally_may IsSorted = refl
  tally_may IsStrictSorted = refl
  tally_may Max = may_mapped sums.has_sums Max Element (λ v. refl) (most_of t.seen)
  tally_may Min = may_mapped sums.has_sums Min Element (λ v. refl) (least_of t.seen)
  tally_may Total =
      elim sums.has_sums as (λ b. may_set {V = V} {S = S} b Total (mapped Sum (cond b (exactly t.sum) Absent)) ≡ true) [
        | true ↦ may_mapped true Total Sum (λ v. refl) (exactly t.sum)
        | false ↦ refl
      ]
  tally_may NullCount = refl
  tally_may UncompressedSizeInBytes = may_mapped sums.has_sums UncompressedSizeInBytes Count (λ v. refl) (cond (ltb (n * sums.width) (2 ^ 64)) (Exact (n * sums.width)) Absent)
  tally_may NaNCount = refl

module _ {V S : Type 0} (f : Stat → Claim V S) where
  -- one claim more
  pub put_more : (sums : Bool) → ((s : Stat) → may_set sums s (f s) ≡ true) → (ss : List Stat) (i : ℕ) (d : Stat) (x : Claim V S) (es fs : Entries V S) → i < 9 → ss ≡ all_stats → es ≡ all_put f (take i ss) → x ≡ f (get_or ss i d) → fs ≡ cond (may_set sums (get_or ss i d) x) (put es (get_or ss i d) x) es → fs ≡ all_put f (take (i + 1) ss)
  put_more sums may ss i d x es fs below is was e after =
      let s = get_or ss i d in
      after
      ∙ ap (λ c. cond (may_set sums s c) (put es s c) es) e
      ∙ cond-true (may_set sums s (f s)) (put es s (f s)) es (may s)
      ∙ ap (λ a. put a s (f s)) was
      ∙ sym (fold_more (λ a r. put a r (f r)) [] ss i d (subst (λ l. i < length l) (sym is) below))

-- equal claims fill a set alike
put_same : {V S : Type 0} (f g : Stat → Claim V S) → ((s : Stat) → f s ≡ g s) → (ss : List Stat) (es : Entries V S) → fold (λ a s. put a s (f s)) es ss ≡ fold (λ a s. put a s (g s)) es ss
put_same f g e [] es = refl
put_same f g e (s ∷ ss) es = put_same f g e ss (put es s (f s)) ∙ ap (λ c. fold (λ a r. put a r (g r)) (put es s c) ss) (e s)

-- what counting owes, from the tally of all rows
pub counting_owed : {V S : Type 0} (k : Column V S) → ColumnLaws k → (rows : List (Row V)) (t : Tally V S) (es : Entries V S) → t ≡ run k (fresh k.sums) rows → es ≡ all_put (tally_claim k.order k.sums t (length rows)) all_stats → Counts k rows es
counting_owed k laws rows t es e f =
    let value : es ≡ counted k rows = f ∙ ap (λ u. all_put (tally_claim k.order k.sums u (length rows)) all_stats) e ∙ put_same (tally_claim k.order k.sums (run k (fresh k.sums) rows) (length rows)) (counted_claim k rows) (tally_is k laws rows) all_stats [] in
    record { value = value; truth = subst (AllHold k rows) (sym value) (counted_holds k laws rows); which = ap stats_of value ∙ counted_stats k rows; fits = λ e. subst (Tells (RunningFits k (elements rows))) (sym (ap (λ es. has es Total) value ∙ counted_has k rows Total ∙ ap (λ b. b && some? (summed k (Some k.sums.zero) (elements rows))) e)) (running_told k (laws.summed e) (elements rows)) }
