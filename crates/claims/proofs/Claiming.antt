-- The claims after one was written, or after a filter, statistic by statistic.
use Rattle.std.proofs.Common.{◌≡◌, ℕ, ◌<◌, Bool, true, false, cond, List, get_or, set, Some, None, Option, sym, refl, ap, ◌∙◌, arith, get_or-set_other, get_or-set_same}
use Rattle.std.proofs.lemmas.Bool.{false≢true, and_parts, eqb-true, eqb-false}
use Rattle.precision.specs.declared.precision.Precision.{Precision}
use Rattle.precision.specs.declared.precision.Precision.TheVariants.{Exact, Inexact, Absent}
use Rattle.precision.specs.Claims.{mapped}
use Rattle.stat.specs.declared.Stat.{Stat}
use Rattle.stat.specs.declared.Stat.TheVariants.{IsConstant, IsSorted, IsStrictSorted, Max, Min, Sum as Total, NullCount, UncompressedSizeInBytes, NaNCount}
use Rattle.stat.specs.Stats.{stat_number, same_stat}
use Rattle.statement.specs.declared.StatValue.{StatValue}
use Rattle.statement.specs.declared.StatValue.TheVariants.{Flag, Element, Sum, Count}
use Rattle.rules.specs.Claims.{some?, takes, may_set}
use Rattle.statement.specs.Kinds.{Claim, claimed, parted, flag_in, element_in, sum_in, count_in, flag_claim, element_claim, sum_claim, count_claim}
use Rattle.listing.specs.Marks.{marked}
use Rattle.claims.specs.declared.Claims.{Claims}
use Rattle.claims.specs.Entries.{claims_list, claim_in, with_claim, kept_claims, if_kept}

pub number_small : (s : Stat) → stat_number s < 9
number_small IsConstant = omega arith
number_small IsSorted = omega arith
number_small IsStrictSorted = omega arith
number_small Max = omega arith
number_small Min = omega arith
number_small Total = omega arith
number_small NullCount = omega arith
number_small UncompressedSizeInBytes = omega arith
number_small NaNCount = omega arith

-- under a mapping of kinds, an absent claim stays absent
kept_mapped : {A B : Type 0} (f : A → B) (b : Bool) (c : Precision A) → mapped f (if_kept b c) ≡ if_kept b (mapped f c)
kept_mapped f true c = refl
kept_mapped f false c = refl

module _ {V S : Type 0} where
  -- a claim read by the statistic's kind
  abbrev recast : Stat → Claim V S → Claim V S
  recast IsConstant x = mapped Flag (flag_claim x)
  recast IsSorted x = mapped Flag (flag_claim x)
  recast IsStrictSorted x = mapped Flag (flag_claim x)
  recast Max x = mapped Element (element_claim x)
  recast Min x = mapped Element (element_claim x)
  recast Total x = mapped Sum (sum_claim x)
  recast NullCount x = mapped Count (count_claim x)
  recast UncompressedSizeInBytes x = mapped Count (count_claim x)
  recast NaNCount x = mapped Count (count_claim x)

  -- is the claim itself, if its value is of that kind
  module _ {B : Type 0} (f : B → StatValue V S) (part : StatValue V S → Option B) (back : (v : StatValue V S) (b : B) → part v ≡ Some b → f b ≡ v) where
    exact_back : (v : StatValue V S) (o : Option B) → part v ≡ o → some? o ≡ true → mapped f (claimed true o) ≡ Exact v
    exact_back v (Some b) e h = ap Exact (back v b e)
    exact_back v None e h = absurd (false≢true h)

    inexact_back : (v : StatValue V S) (o : Option B) → part v ≡ o → some? o ≡ true → mapped f (claimed false o) ≡ Inexact v
    inexact_back v (Some b) e h = ap Inexact (back v b e)
    inexact_back v None e h = absurd (false≢true h)

    recast_by : (sums : Bool) (s : Stat) → ((v : StatValue V S) → takes sums s v ≡ true → some? (part v) ≡ true) → (x : Claim V S) → may_set sums s x ≡ true → mapped f (parted part x) ≡ x
    recast_by sums s kind (Exact v) h = exact_back v (part v) refl (kind v h)
    recast_by sums s kind (Inexact v) h = inexact_back v (part v) refl (kind v h)
    recast_by sums s kind Absent h = refl

  flag_whole : (v : StatValue V S) (b : Bool) → flag_in v ≡ Some b → Flag b ≡ v
  flag_whole (Flag a) b e = let h : a ≡ b = cc in ap Flag (sym h)
  flag_whole (Element x) b e = let z : ◌≡◌ {A = ℕ} 0 1 = cc in absurd (omega arith)
  flag_whole (Sum x) b e = let z : ◌≡◌ {A = ℕ} 0 1 = cc in absurd (omega arith)
  flag_whole (Count n) b e = let z : ◌≡◌ {A = ℕ} 0 1 = cc in absurd (omega arith)

  element_whole : (v : StatValue V S) (b : V) → element_in v ≡ Some b → Element b ≡ v
  element_whole (Flag a) b e = let z : ◌≡◌ {A = ℕ} 0 1 = cc in absurd (omega arith)
  element_whole (Element x) b e = let h : x ≡ b = cc in ap Element (sym h)
  element_whole (Sum x) b e = let z : ◌≡◌ {A = ℕ} 0 1 = cc in absurd (omega arith)
  element_whole (Count n) b e = let z : ◌≡◌ {A = ℕ} 0 1 = cc in absurd (omega arith)

  sum_whole : (v : StatValue V S) (b : S) → sum_in v ≡ Some b → Sum b ≡ v
  sum_whole (Flag a) b e = let z : ◌≡◌ {A = ℕ} 0 1 = cc in absurd (omega arith)
  sum_whole (Element x) b e = let z : ◌≡◌ {A = ℕ} 0 1 = cc in absurd (omega arith)
  sum_whole (Sum x) b e = let h : x ≡ b = cc in ap Sum (sym h)
  sum_whole (Count n) b e = let z : ◌≡◌ {A = ℕ} 0 1 = cc in absurd (omega arith)

  count_whole : (v : StatValue V S) (b : ℕ) → count_in v ≡ Some b → Count b ≡ v
  count_whole (Flag a) b e = let z : ◌≡◌ {A = ℕ} 0 1 = cc in absurd (omega arith)
  count_whole (Element x) b e = let z : ◌≡◌ {A = ℕ} 0 1 = cc in absurd (omega arith)
  count_whole (Sum x) b e = let z : ◌≡◌ {A = ℕ} 0 1 = cc in absurd (omega arith)
  count_whole (Count n) b e = let h : n ≡ b = cc in ap Count (sym h)

  recast_same : (sums : Bool) (s : Stat) (x : Claim V S) → may_set sums s x ≡ true → recast s x ≡ x
  recast_same sums IsConstant = recast_by Flag flag_in flag_whole sums IsConstant (λ v h. h)
  recast_same sums IsSorted = recast_by Flag flag_in flag_whole sums IsSorted (λ v h. h)
  recast_same sums IsStrictSorted = recast_by Flag flag_in flag_whole sums IsStrictSorted (λ v h. h)
  recast_same sums Max = recast_by Element element_in element_whole sums Max (λ v h. h)
  recast_same sums Min = recast_by Element element_in element_whole sums Min (λ v h. h)
  recast_same sums Total = recast_by Sum sum_in sum_whole sums Total (λ v h. (and_parts sums (some? (sum_in v)) h).1)
  recast_same sums NullCount = recast_by Count count_in count_whole sums NullCount (λ v h. h)
  recast_same sums UncompressedSizeInBytes = recast_by Count count_in count_whole sums UncompressedSizeInBytes (λ v h. h)
  recast_same sums NaNCount = recast_by Count count_in count_whole sums NaNCount (λ v h. h)

  claims_with : (c : Claims V S) (s : Stat) (x : Claim V S) → claims_list (with_claim c s x) ≡ set (claims_list c) (stat_number s) (recast s x)
  claims_with c IsConstant x = refl
  claims_with c IsSorted x = refl
  claims_with c IsStrictSorted x = refl
  claims_with c Max x = refl
  claims_with c Min x = refl
  claims_with c Total x = refl
  claims_with c NullCount x = refl
  claims_with c UncompressedSizeInBytes x = refl
  claims_with c NaNCount x = refl

  -- the new claim at its own statistic, and what was there at every other
  pub claim_with : (sums : Bool) (c : Claims V S) (s : Stat) (x : Claim V S) → may_set sums s x ≡ true → (t : Stat) → claim_in (with_claim c s x) t ≡ cond (same_stat s t) x (claim_in c t)
  claim_with sums c s x m t =
      ap (λ l. get_or l (stat_number t) Absent) (claims_with c s x) ∙ ap (λ y. get_or (set (claims_list c) (stat_number s) y) (stat_number t) Absent) (recast_same sums s x m) ∙ go (same_stat s t) refl
    where
      go : (b : Bool) → same_stat s t ≡ b → get_or (set (claims_list c) (stat_number s) x) (stat_number t) Absent ≡ cond b x (claim_in c t)
      go true e =
          ap (λ n. get_or (set (claims_list c) (stat_number s) x) n Absent) (sym (eqb-true (stat_number s) (stat_number t) e))
          ∙ get_or-set_same (claims_list c) (stat_number s) x Absent (number_small s)
      go false e = get_or-set_other (claims_list c) (stat_number s) (stat_number t) x Absent (λ h. eqb-false (stat_number s) (stat_number t) e (sym h))

  pub claim_kept : (k : List Bool) (c : Claims V S) (t : Stat) → claim_in (kept_claims k c) t ≡ cond (marked k t) (claim_in c t) Absent
  claim_kept k c IsConstant = kept_mapped Flag (marked k IsConstant) c.is_constant
  claim_kept k c IsSorted = kept_mapped Flag (marked k IsSorted) c.is_sorted
  claim_kept k c IsStrictSorted = kept_mapped Flag (marked k IsStrictSorted) c.is_strict_sorted
  claim_kept k c Max = kept_mapped Element (marked k Max) c.max
  claim_kept k c Min = kept_mapped Element (marked k Min) c.min
  claim_kept k c Total = kept_mapped Sum (marked k Total) c.sum
  claim_kept k c NullCount = kept_mapped Count (marked k NullCount) c.null_count
  claim_kept k c UncompressedSizeInBytes = kept_mapped Count (marked k UncompressedSizeInBytes) c.uncompressed_size_in_bytes
  claim_kept k c NaNCount = kept_mapped Count (marked k NaNCount) c.nan_count
