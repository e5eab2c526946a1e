-- A merge keeps truth: claims true of two zones' rows are merged into claims true of the rows of both.
use Rattle.std.proofs.Common.{◌≡◌, ◌*◌, Bool, true, false, cond, List, [], ◌∷◌, ◌++◌, length, Some, None, Option, sym, refl, ap, ◌∙◌, subst}
use Rattle.std.proofs.ByRecursion.{All-weaker}
use Rattle.std.proofs.lemmas.Bool.{true≢false, cond_both, and_from}
use Rattle.stat.specs.declared.Stat.{Stat}
use Rattle.stat.specs.declared.Stat.TheVariants.{IsConstant, IsSorted, IsStrictSorted, Max, Min, Sum as Total, NullCount, UncompressedSizeInBytes, NaNCount}
use Rattle.precision.specs.declared.precision.Precision.{Precision}
use Rattle.precision.specs.declared.precision.Precision.TheVariants.{Absent, Exact, Inexact}
use Rattle.statement.specs.declared.StatValue.TheVariants.{Flag, Element, Sum, Count}
use Rattle.rules.specs.Column.{Column, ColumnLaws}
use Rattle.rules.specs.Rows.{Row, In, here, later, Every, nulls}
use Rattle.rules.specs.Claims.{takes, settable, may_set}
use Rattle.statement.specs.Kinds.{Claim, sum_claim}
use Rattle.stat.specs.Stats.{same_stat, all_stats}
use Rattle.precision.specs.Claims.{mapped, exact_of}
use Rattle.rules.specs.Truth.{ClaimHolds, Holds, AllHold}
use Rattle.rules.specs.Sets.{Entries, AllSettable, Proper, got, put}
use Rattle.rules.specs.Merging.{both, exactly, rule, merged_over, merged}
use Rattle.rules.proofs.Lists.{every_in, in_every, every_both}
use Rattle.rules.proofs.Joins.{nulls_join, size_join}
use Rattle.rules.proofs.Claims.{InSome, absent_holds, kind_settable}
use Rattle.rules.proofs.Sets.{got_every, got_holds, got_put_other, put_all, every_put_nine, got_put_nine, apart_put_all}
use Rattle.rules.proofs.Leaves.{Taken, sum_taken, constant_holds, sorted_holds, strict_holds, max_holds, min_holds, sum_holds, tally_holds, none_holds}

-- The rules read statistics that are not yet changed: so a merge puts in what they give of the two sets as they were.

-- the statistics of its own set that a rule reads
abbrev reads : Stat → List Stat
reads IsConstant = IsConstant ∷ Min ∷ []
reads IsSorted = IsSorted ∷ Max ∷ []
reads IsStrictSorted = IsStrictSorted ∷ Max ∷ []
reads Max = Max ∷ []
reads Min = Min ∷ []
reads Total = Total ∷ []
reads NullCount = NullCount ∷ []
reads UncompressedSizeInBytes = UncompressedSizeInBytes ∷ []
reads NaNCount = NaNCount ∷ []

-- each reads none of those before it, and none comes twice
abbrev Ready : List Stat → Type 0
Ready [] = Unit {0}
Ready (s ∷ ss) = Every (λ r. In r (s ∷ ss)) (reads s) × Every (λ r. same_stat r s ≡ false) ss × Ready ss

all_ready : Ready all_stats
all_ready = search (here, later)

module _ {V S : Type 0} (k : Column V S) (in_order : Bool) (x y : Entries V S) where
  -- the two sets tell the same of these statistics
  abbrev Agree : Entries V S → List Stat → Type 0
  Agree es ss = Every (λ r. got es r ≡ got x r) ss

  rule_reads : (es : Entries V S) (s : Stat) → Agree es (reads s) → rule k in_order es y s ≡ rule k in_order x y s
  rule_reads es IsConstant h = cc
  rule_reads es IsSorted h = cc
  rule_reads es IsStrictSorted h = cc
  rule_reads es Max h = cc
  rule_reads es Min h = cc
  rule_reads es Total h = cc
  rule_reads es NullCount h = cc
  rule_reads es UncompressedSizeInBytes h = cc
  rule_reads es NaNCount h = cc

  merged_from : (ss : List Stat) (es : Entries V S) → Ready ss → Agree es ss → merged_over k in_order y ss es ≡ put_all (rule k in_order x y) ss es
  merged_from [] es ready agree = refl
  merged_from (s ∷ ss) es ready agree = ap (λ c. merged_over k in_order y ss (put es s c)) same_rule ∙ merged_from ss (put es s (rule k in_order x y s)) ready.2 agree_after
    where
      same_rule : rule k in_order es y s ≡ rule k in_order x y s
      same_rule = rule_reads es s (All-weaker (λ r. In r (s ∷ ss)) (λ r. got es r ≡ got x r) (λ r i. every_in (λ r. got es r ≡ got x r) r (s ∷ ss) agree i) (reads s) ready.0)

      agree_after : Agree (put es s (rule k in_order x y s)) ss
      agree_after = every_both (λ r. same_stat r s ≡ false) (λ r. got es r ≡ got x r) (λ r. got (put es s (rule k in_order x y s)) r ≡ got x r) ss (λ r d e. got_put_other r s d es (rule k in_order x y s) ∙ e) ready.1 agree.1

  pub merged_as : merged k in_order x y ≡ put_all (rule k in_order x y) all_stats x
  merged_as = merged_from all_stats x all_ready (in_every (λ r. got x r ≡ got x r) all_stats (λ r i. refl))

  pub got_merged : (s : Stat) → got (merged k in_order x y) s ≡ rule k in_order x y s
  got_merged s = ap (λ es. got es s) merged_as ∙ got_put_nine (rule k in_order x y) x s

-- what `got` gives of claims that `set` takes is one, or Absent
pub got_taken : {V S : Type 0} (has_sums : Bool) (es : Entries V S) → AllSettable has_sums es → (s : Stat) → Taken has_sums s (got es s)
got_taken has_sums es h s =
    got_every (Taken has_sums) (λ r a. absurd (true≢false a)) es
    (All-weaker (λ e. settable has_sums e.stat e.claim ≡ true) (λ e. Taken has_sums e.stat e.claim) (λ e t a. t) es h) s

-- what is there, or comes of a rule, may be set
pub may_taken : {V S : Type 0} (sums : Bool) (s : Stat) (x : Claim V S) → Taken sums s x → may_set sums s x ≡ true
may_taken sums s (Exact v) t = t refl
may_taken sums s (Inexact v) t = t refl
may_taken sums s Absent t = refl

pub got_may : {V S : Type 0} (sums : Bool) (es : Entries V S) → AllSettable sums es → (s : Stat) → may_set sums s (got es s) ≡ true
got_may sums es h s = may_taken sums s (got es s) (got_taken sums es h s)

-- Each rule keeps truth.
module _ {V S : Type 0} (k : Column V S) (laws : ColumnLaws k) (in_order : Bool) (a b : List (Row V)) (x y : Entries V S) where
  module _ (settable : AllSettable k.sums.has_sums x) (hx : (s : Stat) → ClaimHolds k a s (got x s)) (hy : (s : Stat) → ClaimHolds k b s (got y s)) where
    -- an unordered merge clears
    if_ordered : (s : Stat) (c : Claim V S) → ClaimHolds k (a ++ b) s c → ClaimHolds k (a ++ b) s (cond in_order c Absent)
    if_ordered s c h = cond_both in_order c Absent (ClaimHolds k (a ++ b) s) (λ t. h) (λ t. absent_holds k (a ++ b) s)

    pub rule_true : (s : Stat) → ClaimHolds k (a ++ b) s (rule k in_order x y s)
    rule_true IsConstant = constant_holds k laws a b (got x IsConstant) (got y IsConstant) (got x Min) (got y Min) (hx IsConstant) (hy IsConstant) (hx Min) (hy Min)
    rule_true IsSorted = if_ordered IsSorted _ (sorted_holds k laws a b (got x IsSorted) (got y IsSorted) (got x Max) (got y Min) (hx IsSorted) (hy IsSorted) (hx Max) (hy Min))
    rule_true IsStrictSorted = if_ordered IsStrictSorted _ (strict_holds k laws a b (got x IsStrictSorted) (got y IsStrictSorted) (got x Max) (got y Min) (hx IsStrictSorted) (hy IsStrictSorted) (hx Max) (hy Min))
    rule_true Max = max_holds k laws a b (got x Max) (got y Max) (hx Max) (hy Max)
    rule_true Min = min_holds k laws a b (got x Min) (got y Min) (hx Min) (hy Min)
    rule_true Total = sum_holds k laws a b (got x Total) (got y Total) (got_taken k.sums.has_sums x settable Total) (hx Total) (hy Total)
    rule_true NullCount = tally_holds (nulls a) (nulls b) (nulls (a ++ b)) (nulls_join a b) (got x NullCount) (got y NullCount) (hx NullCount) (hy NullCount)
    rule_true UncompressedSizeInBytes = tally_holds (length a * k.sums.width) (length b * k.sums.width) (length (a ++ b) * k.sums.width) (size_join k.sums.width a b) (got x UncompressedSizeInBytes) (got y UncompressedSizeInBytes) (hx UncompressedSizeInBytes) (hy UncompressedSizeInBytes)
    rule_true NaNCount = none_holds (got x NaNCount) (got y NaNCount) (hx NaNCount) (hy NaNCount)

pub merged_true : {V S : Type 0} (k : Column V S) → ColumnLaws k → (in_order : Bool) (a b : List (Row V)) (x y : Entries V S) → AllSettable k.sums.has_sums x → AllHold k a x → AllHold k b y → AllHold k (a ++ b) (merged k in_order x y)
merged_true k laws in_order a b x y settable hx hy =
    subst
    (AllHold k (a ++ b))
    (sym (merged_as k in_order x y))
    (every_put_nine (rule k in_order x y) (Holds k (a ++ b)) (λ s present. rule_true k laws in_order a b x y settable (λ s. got_holds k a x s hx) (λ s. got_holds k b y s hy) s) x)

-- Each rule gives a claim that `set` takes, or Absent.
module _ (V S : Type 0) (has_sums : Bool) where
  flag_taken : (s : Stat) → ((b : Bool) → takes {V = V} {S = S} has_sums s (Flag b) ≡ true) → (in_order : Bool) (c : Precision Bool) → Taken {V = V} {S = S} has_sums s (cond in_order (mapped Flag c) Absent)
  flag_taken s each true c = kind_settable has_sums s Flag each c
  flag_taken s each false c = λ a. absurd (true≢false a)

  -- a sum comes of an exact one
  sum_settable : (f : S → S → Precision S) (x y : Option S) → InSome (λ s. has_sums ≡ true) x → Taken {V = V} {S = S} has_sums Total (mapped Sum (both f x y))
  sum_settable f (Some s) y e = kind_settable has_sums Total Sum (λ v. and_from has_sums true e refl) (both f (Some s) y)
  sum_settable f None (Some t) e = λ a. absurd (true≢false a)
  sum_settable f None None e = λ a. absurd (true≢false a)

module _ {V S : Type 0} (k : Column V S) (in_order : Bool) (x y : Entries V S) where
  pub rule_taken : AllSettable k.sums.has_sums x → (s : Stat) → Taken k.sums.has_sums s (rule k in_order x y s)
  rule_taken settable IsConstant = kind_settable k.sums.has_sums IsConstant Flag (λ v. refl) _
  rule_taken settable IsSorted = flag_taken V S k.sums.has_sums IsSorted (λ v. refl) in_order _
  rule_taken settable IsStrictSorted = flag_taken V S k.sums.has_sums IsStrictSorted (λ v. refl) in_order _
  rule_taken settable Max = kind_settable k.sums.has_sums Max Element (λ v. refl) _
  rule_taken settable Min = kind_settable k.sums.has_sums Min Element (λ v. refl) _
  rule_taken settable Total =
      sum_settable V S k.sums.has_sums (λ s t. exactly (k.sums.plus s t)) (exact_of (sum_claim (got x Total))) (exact_of (sum_claim (got y Total)))
      (sum_taken k.sums.has_sums (got x Total) (got_taken k.sums.has_sums x settable Total))
  rule_taken settable NullCount = kind_settable k.sums.has_sums NullCount Count (λ v. refl) _
  rule_taken settable UncompressedSizeInBytes = kind_settable k.sums.has_sums UncompressedSizeInBytes Count (λ v. refl) _
  rule_taken settable NaNCount = kind_settable k.sums.has_sums NaNCount Count (λ v. refl) _

  pub merged_proper : Proper k.sums.has_sums x → Proper k.sums.has_sums (merged k in_order x y)
  merged_proper proper =
      subst
      (Proper k.sums.has_sums)
      (sym (merged_as k in_order x y))
      (record {
        settable = every_put_nine (rule k in_order x y) (λ e. settable k.sums.has_sums e.stat e.claim ≡ true) (rule_taken proper.settable) x;
        apart = apart_put_all (rule k in_order x y) all_stats x proper.apart;
      })
