-- Who tells the truth is never refused: true statements combined with true entries all go in.
use Rattle.std.proofs.Common.{◌≡◌, Bool, true, false, List, [], ◌∷◌, Some, None, Option, sym, refl, ap, ◌∙◌}
use Rattle.std.proofs.lemmas.Bool.{true≢false, false≢true, cond_both, cond-false}
use Rattle.stat.specs.declared.Stat.{Stat}
use Rattle.stat.specs.declared.Stat.TheVariants.{IsConstant, IsSorted, IsStrictSorted, Max, Min, Sum as Total, NullCount, UncompressedSizeInBytes, NaNCount}
use Rattle.statement.specs.declared.StatValue.TheVariants.{Flag, Element, Sum, Count}
use Rattle.statement.specs.declared.Statement.{Statement}
use Rattle.order.specs.Order.{flag_order, count_order, below, above}
use Rattle.rules.specs.Column.{Column, ColumnLaws}
use Rattle.rules.specs.Rows.{Row}
use Rattle.rules.specs.Claims.{some?, settable}
use Rattle.statement.specs.Kinds.{Claim, flag_claim, element_claim, sum_claim, count_claim}
use Rattle.precision.specs.Claims.{is_absent}
use Rattle.stat.specs.Stats.{same_stat}
use Rattle.rules.specs.Truth.{ClaimHolds, Holds, AllHold}
use Rattle.stat_bound.specs.Bounds.{intersection_by}
use Rattle.rules.specs.Sets.{Entries, AllSettable, Proper, got, has, put}
use Rattle.rules.specs.Combining.{met, intersected, joined, combined, taken, against}
use Rattle.rules.proofs.Claims.{InSome, in_some, flag_back, element_back, sum_back, count_back, settable_sums, flag_there, element_there, sum_there, count_there, flag_settable, element_settable, sum_settable, count_settable}
use Rattle.rules.proofs.Sets.{same_stat_is, every_put, apart_put, got_holds}
use Rattle.rules.proofs.Meeting.{bound_met, precision_met}
use Rattle.rules.proofs.Combining.{joined_holds}
use Rattle.rules.proofs.Convicting.{convicts}

module _ {V S : Type 0} (sums : Bool) where
  pub got_settable : (es : Entries V S) (s : Stat) → AllSettable sums es → has es s ≡ true → settable sums s (got es s) ≡ true
  got_settable [] s h e = absurd (false≢true e)
  got_settable (x ∷ es) s h e =
      cond_both (same_stat s x.stat) x.claim (got es s) (λ c. settable sums s c ≡ true)
      (λ same. rw (same_stat_is s x.stat same) h.0)
      (λ other. got_settable es s h.1 (sym (cond-false (same_stat s x.stat) true (has es s) other) ∙ e))

module _ {V S : Type 0} (k : Column V S) where
  flags_settable : (x y : Claim V S) → settable k.sums.has_sums IsConstant x ≡ true → settable k.sums.has_sums IsConstant y ≡ true → InSome (λ c. settable k.sums.has_sums IsConstant c ≡ true) (intersected k IsConstant x y)
  flags_settable x y a b =
      in_some (λ c. is_absent (flag_claim c) ≡ false) (λ c. settable k.sums.has_sums IsConstant c ≡ true) (flag_settable k.sums.has_sums) (intersected k IsConstant x y)
      (precision_met flag_order Flag flag_claim (flag_back V S) (λ c. is_absent c ≡ false) x y (flag_there k.sums.has_sums x a) (flag_there k.sums.has_sums y b))

  counts_settable : (x y : Claim V S) → settable k.sums.has_sums NullCount x ≡ true → settable k.sums.has_sums NullCount y ≡ true → InSome (λ c. settable k.sums.has_sums NullCount c ≡ true) (intersected k NullCount x y)
  counts_settable x y a b =
      in_some (λ c. is_absent (count_claim c) ≡ false) (λ c. settable k.sums.has_sums NullCount c ≡ true) (count_settable k.sums.has_sums) (intersected k NullCount x y)
      (bound_met count_order Count count_claim (count_back V S) (λ c. is_absent c ≡ false) (above count_order) (below count_order) x y (count_there k.sums.has_sums x a) (count_there k.sums.has_sums y b))

  elements_settable : (ahead behind : V → V → Bool) (x y : Claim V S) → settable k.sums.has_sums Max x ≡ true → settable k.sums.has_sums Max y ≡ true → InSome {A = Claim V S} (λ c. settable k.sums.has_sums Max c ≡ true) (met Element (intersection_by k.order ahead behind (element_claim x) (element_claim y)))
  elements_settable ahead behind x y a b =
      in_some (λ c. is_absent (element_claim c) ≡ false) (λ c. settable k.sums.has_sums Max c ≡ true) (element_settable k.sums.has_sums) (met Element (intersection_by k.order ahead behind (element_claim x) (element_claim y)))
      (bound_met k.order Element element_claim (element_back V S) (λ c. is_absent c ≡ false) ahead behind x y (element_there k.sums.has_sums x a) (element_there k.sums.has_sums y b))

  sums_settable : (x y : Claim V S) → settable k.sums.has_sums Total x ≡ true → settable k.sums.has_sums Total y ≡ true → InSome (λ c. settable k.sums.has_sums Total c ≡ true) (intersected k Total x y)
  sums_settable x y a b =
      in_some (λ c. is_absent (sum_claim c) ≡ false) (λ c. settable k.sums.has_sums Total c ≡ true) (λ c. sum_settable k.sums.has_sums c (settable_sums k.sums.has_sums x a)) (intersected k Total x y)
      (precision_met k.sum_order Sum sum_claim (sum_back V S) (λ c. is_absent c ≡ false) x y (sum_there k.sums.has_sums x a) (sum_there k.sums.has_sums y b))

  -- an intersection of two claims that `set` takes is one
  pub intersected_settable : (s : Stat) (x y : Claim V S) → settable k.sums.has_sums s x ≡ true → settable k.sums.has_sums s y ≡ true → InSome (λ c. settable k.sums.has_sums s c ≡ true) (intersected k s x y)
  intersected_settable IsConstant x y a b = flags_settable x y a b
  intersected_settable IsSorted x y a b = flags_settable x y a b
  intersected_settable IsStrictSorted x y a b = flags_settable x y a b
  intersected_settable Max x y a b = elements_settable (above k.order) (below k.order) x y a b
  intersected_settable Min x y a b = elements_settable (below k.order) (above k.order) x y a b
  intersected_settable Total x y a b = sums_settable x y a b
  intersected_settable NullCount x y a b = counts_settable x y a b
  intersected_settable UncompressedSizeInBytes x y a b = counts_settable x y a b
  intersected_settable NaNCount x y a b = counts_settable x y a b

  pub joined_settable : (es : Entries V S) (s : Statement V S) → AllSettable k.sums.has_sums es → settable k.sums.has_sums s.stat s.claim ≡ true → InSome (λ c. settable k.sums.has_sums s.stat c ≡ true) (joined k es s)
  joined_settable es s h a =
      cond_both (has es s.stat) (intersected k s.stat (got es s.stat) s.claim) (Some s.claim)
      (InSome (λ c. settable k.sums.has_sums s.stat c ≡ true))
      (λ e. intersected_settable s.stat (got es s.stat) s.claim (got_settable k.sums.has_sums es s.stat h e) a)
      (λ e. a)

  -- so combining statements that `set` takes keeps what `set` can make
  pub combined_proper : (told : List (Statement V S)) (es : Entries V S) → AllSettable k.sums.has_sums told → Proper k.sums.has_sums es → Proper k.sums.has_sums (combined k told es)
  combined_proper [] es a h = h
  combined_proper (s ∷ ss) es a h = step (joined k es s) (joined_settable es s h.settable a.0) (λ c. combined_proper ss (put es s.stat c) a.1)
    where
      step : (o : Option (Claim V S))
          → InSome (λ c. settable k.sums.has_sums s.stat c ≡ true) o
          → ((c : Claim V S) → Proper k.sums.has_sums (put es s.stat c) → Proper k.sums.has_sums (combined k ss (put es s.stat c)))
          → Proper k.sums.has_sums (elim o [ Some c ↦ combined k ss (put es s.stat c) | None ↦ es ])
      step (Some c) set more =
          more c
          (record {
            settable = every_put (λ e. settable k.sums.has_sums e.stat e.claim ≡ true) es s.stat c h.settable set;
            apart = apart_put es s.stat c h.apart;
          })
      step None set more = h

module _ {V S : Type 0} (k : Column V S) (laws : ColumnLaws k) (rows : List (Row V)) where
  joined_there : (es : Entries V S) (s : Statement V S) → AllSettable k.sums.has_sums es → settable k.sums.has_sums s.stat s.claim ≡ true → AllHold k rows es → Holds k rows s → joined k es s ≡ None → ⊥
  joined_there es s h a t p =
      cond_both (has es s.stat) (intersected k s.stat (got es s.stat) s.claim) (Some s.claim) (λ o. o ≡ None → ⊥)
      (λ e n. convicts k laws rows s.stat (got es s.stat) s.claim (got_settable k.sums.has_sums es s.stat h e) a n (got_holds k rows es s.stat t) p)
      (λ e n. true≢false (ap some? n))

  pub honest : (told : List (Statement V S)) (es : Entries V S) → AllSettable k.sums.has_sums told → AllSettable k.sums.has_sums es → AllHold k rows told → AllHold k rows es → (taken k told es ≡ told) × (against k told es ≡ None)
  honest [] es a b p q = (refl, refl)
  honest (s ∷ ss) es a b p q =
      step (joined k es s) (joined_there es s b a.0 q p.0) (joined_settable k es s b a.0) (joined_holds k rows es s q p.0)
      (λ c. honest ss (put es s.stat c))
    where
      step : (o : Option (Claim V S))
          → (o ≡ None → ⊥)
          → InSome (λ c. settable k.sums.has_sums s.stat c ≡ true) o
          → InSome (ClaimHolds k rows s.stat) o
          → ((c : Claim V S) → AllSettable k.sums.has_sums ss → AllSettable k.sums.has_sums (put es s.stat c) → AllHold k rows ss → AllHold k rows (put es s.stat c) → (taken k ss (put es s.stat c) ≡ ss) × (against k ss (put es s.stat c) ≡ None))
          → ◌≡◌ {A = List (Statement V S)} (elim o [ Some c ↦ s ∷ taken k ss (put es s.stat c) | None ↦ [] ]) (s ∷ ss)
          × ◌≡◌ {A = Option Stat} (elim o [ Some c ↦ against k ss (put es s.stat c) | None ↦ Some s.stat ]) None
      step (Some c) there set holds more =
          let r =
          more c a.1 (every_put (λ e. settable k.sums.has_sums e.stat e.claim ≡ true) es s.stat c b set) p.1 (every_put (Holds k rows) es s.stat c q holds)
          in (ap (λ ts. s ∷ ts) r.0, r.1)
      step None there set holds more = absurd (there refl)
