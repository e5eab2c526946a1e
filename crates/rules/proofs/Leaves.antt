-- What the merge's rule gives for each statistic is true of the rows of both zones, if the claims that it reads are true of each zone's.
use Rattle.std.proofs.Common.{◌≡◌, ℕ, ◌+◌, ◌≤◌, Bool, true, false, cond, List, ◌++◌, sym, refl, subst}
use Rattle.stat.specs.declared.Stat.{Stat}
use Rattle.stat.specs.declared.Stat.TheVariants.{IsConstant, IsSorted, IsStrictSorted, Max, Min, Sum as Total}
use Rattle.precision.specs.declared.precision.Precision.{Precision}
use Rattle.precision.specs.declared.precision.Precision.TheVariants.{Exact, Inexact, Absent}
use Rattle.statement.specs.declared.StatValue.TheVariants.{Flag, Element, Sum, Count}
use Rattle.order.specs.Order.{below, above}
use Rattle.rules.specs.Column.{Column, ColumnLaws}
use Rattle.rules.specs.Rows.{Row, Steps, elements, number_total}
use Rattle.rules.specs.Claims.{settable}
use Rattle.statement.specs.Kinds.{Claim, flag_claim, element_claim, sum_claim, count_claim}
use Rattle.precision.specs.Claims.{mapped, exact_of, is_absent}
use Rattle.stat_bound.specs.Bounds.{Says, Always, union_by, lower_union, upper_union}
use Rattle.rules.specs.Truth.{Tells, ClaimHolds}
use Rattle.rules.specs.Merging.{or_absent, constant_rule, sorted_rule, sum_rule, count_rule}
use Rattle.rules.proofs.Joins.{elements_join}
use Rattle.order.proofs.Orders.{Strict, below_strict, above_strict, step_level, step_up}
use Rattle.rules.proofs.Claims.{InSome, in_some, some_always, settable_sums, flag_back, element_back, sum_back, count_back}
use Rattle.rules.proofs.Best.{NoneAhead, Leads}
use Rattle.rules.proofs.Rules.{Farthest, constant_true, sorted_true, union_true, Lawful, sum_true, tally_true, none_true}

-- a claim that is there is one that `set` takes
abbrev pub Taken : {V S : Type 0} → Bool → Stat → Claim V S → Type 0
Taken has_sums s c = is_absent c ≡ false → settable has_sums s c ≡ true

-- an exact sum stands only in a column that has sums
pub sum_taken : {V S : Type 0} (has_sums : Bool) (c : Claim V S) → Taken has_sums Total c → InSome (λ s. has_sums ≡ true) (exact_of (sum_claim c))
sum_taken has_sums (Exact v) h = some_always (settable_sums has_sums (Exact v) (h refl)) (exact_of (sum_claim (Exact v)))
sum_taken has_sums (Inexact v) h = some_always (settable_sums has_sums (Inexact v) (h refl)) (exact_of (sum_claim (Inexact v)))
sum_taken has_sums Absent h = tt

module _ {V S : Type 0} (k : Column V S) (laws : ColumnLaws k) (a b : List (Row V)) where
  on_joined : (P : List V → Type 0) → P (elements a ++ elements b) → P (elements (a ++ b))
  on_joined P h = subst P (sym (elements_join a b)) h

  pub constant_holds : (c d m n : Claim V S) → ClaimHolds k a IsConstant c → ClaimHolds k b IsConstant d → ClaimHolds k a Min m → ClaimHolds k b Min n → ClaimHolds k (a ++ b) IsConstant (mapped Flag (constant_rule k.order (flag_claim c) (flag_claim d) (element_claim m) (element_claim n)))
  constant_holds c d m n hc hd hm hn = rw (flag_back V S) (constant_true k.order laws.ordered a b (Leads (below k.order) (elements a)) (Leads (below k.order) (elements b)) (NoneAhead (below k.order) (elements a)) (NoneAhead (below k.order) (elements b)) (λ v h. h.0) (λ v h. h.0) (flag_claim c) (flag_claim d) (element_claim m) (element_claim n) hc hd hm hn)

  -- sorted and strictly sorted: R between neighbours, and the step from the greatest of one side to the least of the other
  pub steps_hold :
      (R : V → V → Type 0) (in_step : V → V → Bool) →
      ((u v p q : V) → in_step u v ≡ true → above k.order p u ≡ false → below k.order q v ≡ false → R p q) →
      (c d m n : Claim V S) → Says (Tells (Steps R (elements a))) Always (flag_claim c) → Says (Tells (Steps R (elements b))) Always (flag_claim d) → ClaimHolds k a Max m → ClaimHolds k b Min n →
      Says (Tells (Steps R (elements (a ++ b)))) Always (flag_claim {V = V} {S = S} (mapped Flag (sorted_rule in_step (flag_claim c) (flag_claim d) (element_claim m) (element_claim n))))
  steps_hold R in_step sound c d m n hc hd hm hn = rw (flag_back V S) (on_joined (λ vs. Says (Tells (Steps R vs)) Always told) told_true)
    where
      told : Precision Bool
      told = sorted_rule in_step (flag_claim c) (flag_claim d) (element_claim m) (element_claim n)

      told_true : Says (Tells (Steps R (elements a ++ elements b))) Always told
      told_true = sorted_true R in_step (λ u p. above k.order p u ≡ false) (λ v q. below k.order q v ≡ false) sound (elements a) (elements b) (Leads (above k.order) (elements a)) (Leads (below k.order) (elements b)) (λ v h. h.1) (λ v h. h.1) (flag_claim c) (flag_claim d) (element_claim m) (element_claim n) hc hd hm hn

  pub sorted_holds : (c d m n : Claim V S) → ClaimHolds k a IsSorted c → ClaimHolds k b IsSorted d → ClaimHolds k a Max m → ClaimHolds k b Min n → ClaimHolds k (a ++ b) IsSorted (mapped Flag (sorted_rule (λ u v. cond (above k.order u v) false true) (flag_claim c) (flag_claim d) (element_claim m) (element_claim n)))
  sorted_holds = steps_hold (λ p q. above k.order p q ≡ false) (λ u v. cond (above k.order u v) false true) (step_level k.order laws.ordered)

  pub strict_holds : (c d m n : Claim V S) → ClaimHolds k a IsStrictSorted c → ClaimHolds k b IsStrictSorted d → ClaimHolds k a Max m → ClaimHolds k b Min n → ClaimHolds k (a ++ b) IsStrictSorted (mapped Flag (sorted_rule (below k.order) (flag_claim c) (flag_claim d) (element_claim m) (element_claim n)))
  strict_holds = steps_hold (λ p q. below k.order p q ≡ true) (below k.order) (step_up k.order laws.ordered)

  -- greatest and least
  farthest_holds : (ahead behind : V → V → Bool) → Strict ahead behind → (x y : Precision V) → Farthest ahead (elements a) x → Farthest ahead (elements b) y → Farthest ahead (elements (a ++ b)) (element_claim {V = V} {S = S} (mapped Element (or_absent (union_by ahead x y))))
  farthest_holds ahead behind strict x y hx hy = rw (element_back V S) (on_joined (λ vs. Farthest ahead vs (or_absent (union_by ahead x y))) (union_true ahead behind strict (elements a) (elements b) x y hx hy))

  pub max_holds : (c d : Claim V S) → ClaimHolds k a Max c → ClaimHolds k b Max d → ClaimHolds k (a ++ b) Max (mapped Element (or_absent (upper_union k.order (element_claim c) (element_claim d))))
  max_holds c d = farthest_holds (above k.order) (below k.order) (above_strict k.order laws.ordered) (element_claim c) (element_claim d)

  pub min_holds : (c d : Claim V S) → ClaimHolds k a Min c → ClaimHolds k b Min d → ClaimHolds k (a ++ b) Min (mapped Element (or_absent (lower_union k.order (element_claim c) (element_claim d))))
  min_holds c d = farthest_holds (below k.order) (above k.order) (below_strict k.order laws.ordered) (element_claim c) (element_claim d)

  pub sum_holds : (c d : Claim V S) → Taken k.sums.has_sums Total c → ClaimHolds k a Total c → ClaimHolds k b Total d → ClaimHolds k (a ++ b) Total (mapped Sum (sum_rule k.sums.plus (sum_claim c) (sum_claim d)))
  sum_holds c d taken hc hd = rw (sum_back V S) (on_joined (λ vs. Says (λ s. k.sums.total s ≡ number_total k.sums.number vs) Always told) (sum_true k.sums.number k.sums.total k.sums.plus (elements a) (elements b) (sum_claim c) (sum_claim d) lawful hc hd))
    where
      told : Precision S
      told = sum_rule k.sums.plus (sum_claim c) (sum_claim d)

      lawful : InSome (Lawful k.sums.total k.sums.plus) (exact_of (sum_claim c))
      lawful = in_some (λ s. k.sums.has_sums ≡ true) (Lawful k.sums.total k.sums.plus) (λ s e. (laws.summed e).adds s) (exact_of (sum_claim c)) (sum_taken k.sums.has_sums c taken)

-- counts: each side has its own, and both together the sum
module _ {V S : Type 0} where
  pub tally_holds : (p q r : ℕ) → r ≡ p + q → (c d : Claim V S) → Says (λ n. n ≡ p) (λ n. p ≤ n) (count_claim c) → Says (λ n. n ≡ q) (λ n. q ≤ n) (count_claim d) → Says (λ n. n ≡ r) (λ n. r ≤ n) (count_claim {V = V} {S = S} (mapped Count (count_rule (count_claim c) (count_claim d))))
  tally_holds p q r e c d hc hd = rw (count_back V S) (tally_true p q r e (count_claim c) (count_claim d) hc hd)

  pub none_holds : (c d : Claim V S) → Says (λ n. n ≡ 0) Always (count_claim c) → Says (λ n. n ≡ 0) Always (count_claim d) → Says (λ n. n ≡ 0) Always (count_claim {V = V} {S = S} (mapped Count (count_rule (count_claim c) (count_claim d))))
  none_holds c d hc hd = rw (count_back V S) (none_true (count_claim c) (count_claim d) hc hd)
