-- Lists of statistics: which are in one, that none is twice, and that there are at most nine.
use Rattle.std.proofs.Common.{◌≡◌, ℕ, ◌+◌, ◌<◌, ◌≤◌, Bool, true, false, cond, not, ◌&&◌, List, [], ◌∷◌, ◌++◌, length, filter, sym, refl, ap, ◌∙◌, arith}
use Rattle.std.proofs.lemmas.Bool.{true≢false, cond_both, and_parts, and_from, not-true, not_from_false, and_right}
use Rattle.stat.specs.declared.Stat.{Stat}
use Rattle.stat.specs.declared.Stat.TheVariants.{IsConstant, IsSorted, IsStrictSorted, Max, Min, Sum as Total, NullCount, UncompressedSizeInBytes, NaNCount}
use Rattle.stat.specs.Stats.{same_stat}
use Rattle.rules.proofs.Sets.{same_stat_is, stat_itself}
use Rattle.claims.specs.Entries.{has_stat, distinct}

-- what stands in a list after a filter, and after one more
pub has_kept : (keep : Stat → Bool) (ss : List Stat) (s : Stat) → has_stat (filter keep ss) s ≡ (keep s && has_stat ss s)
has_kept keep [] s = nothing (keep s)
  where
    nothing : (b : Bool) → false ≡ (b && false)
    nothing true = refl
    nothing false = refl
has_kept keep (t ∷ ss) s = go (keep t) refl (same_stat s t) refl (has_kept keep ss s)
  where
    go : (k : Bool) → keep t ≡ k → (b : Bool) → same_stat s t ≡ b → has_stat (filter keep ss) s ≡ (keep s && has_stat ss s) → has_stat (cond k (t ∷ filter keep ss) (filter keep ss)) s ≡ (keep s && cond b true (has_stat ss s))
    go true e true d ih = rw d (sym (ap (λ x. x && true) (ap keep (same_stat_is s t d) ∙ e)))
    go true e false d ih = rw d ih
    go false e true d ih = ih ∙ ap (λ x. x && has_stat ss s) (ap keep (same_stat_is s t d) ∙ e) ∙ sym (ap (λ x. x && true) (ap keep (same_stat_is s t d) ∙ e))
    go false e false d ih = ih

pub has_added : (ss : List Stat) (s t : Stat) → has_stat (ss ++ (s ∷ [])) t ≡ cond (same_stat t s) true (has_stat ss t)
has_added [] s t = refl
has_added (u ∷ ss) s t = go (same_stat t u) (same_stat t s) (has_added ss s t)
  where
    go : (a b : Bool) → has_stat (ss ++ (s ∷ [])) t ≡ cond b true (has_stat ss t) → cond a true (has_stat (ss ++ (s ∷ [])) t) ≡ cond b true (cond a true (has_stat ss t))
    go true true e = refl
    go true false e = refl
    go false true e = e
    go false false e = e

-- none is twice after a filter, and after one more that was not there
pub distinct_kept : (keep : Stat → Bool) (ss : List Stat) → distinct ss ≡ true → distinct (filter keep ss) ≡ true
distinct_kept keep [] d = refl
distinct_kept keep (t ∷ ss) d =
    let parts = and_parts (not (has_stat ss t)) (distinct ss) d in
    cond_both (keep t) (t ∷ filter keep ss) (filter keep ss) (λ l. distinct l ≡ true)
    (λ _. and_from (not (has_stat (filter keep ss) t)) (distinct (filter keep ss)) (not_from_false (has_stat (filter keep ss) t) (has_kept keep ss t ∙ and_right (keep t) (has_stat ss t) (not-true (has_stat ss t) parts.0))) (distinct_kept keep ss parts.1))
    (λ _. distinct_kept keep ss parts.1)

pub distinct_added : (ss : List Stat) (s : Stat) → distinct ss ≡ true → has_stat ss s ≡ false → distinct (ss ++ (s ∷ [])) ≡ true
distinct_added [] s d h = refl
distinct_added (t ∷ ss) s d h =
    let parts = and_parts (not (has_stat ss t)) (distinct ss) d in
    let n = apart (same_stat s t) (has_stat ss s) h in
    and_from (not (has_stat (ss ++ (s ∷ [])) t)) (distinct (ss ++ (s ∷ [])))
    (not_from_false (has_stat (ss ++ (s ∷ [])) t) (has_added ss s t ∙ still (same_stat t s) (has_stat ss t) (turned s t n.0) (not-true (has_stat ss t) parts.0)))
    (distinct_added ss s parts.1 n.1)
  where
    apart : (a b : Bool) → cond a true b ≡ false → (a ≡ false) × (b ≡ false)
    apart true b e = absurd (true≢false e)
    apart false b e = (refl, e)

    still : (a b : Bool) → a ≡ false → b ≡ false → cond a true b ≡ false
    still true b e f = e
    still false b e f = f

    turned : (x y : Stat) → same_stat x y ≡ false → same_stat y x ≡ false
    turned x y e = either (same_stat y x) refl
      where
        either : (b : Bool) → same_stat y x ≡ b → b ≡ false
        either true p = absurd (true≢false (sym (stat_itself x) ∙ ap (same_stat x) (sym (same_stat_is y x p)) ∙ e))
        either false p = refl

-- How often each of the nine stands in a list: together as often as the list is long.
abbrev times : Stat → List Stat → ℕ
times s [] = 0
times s (t ∷ ts) = cond (same_stat s t) 1 0 + times s ts

abbrev all_times : List Stat → ℕ
all_times ss = times IsConstant ss + (times IsSorted ss + (times IsStrictSorted ss + (times Max ss + (times Min ss + (times Total ss + (times NullCount ss + (times UncompressedSizeInBytes ss + times NaNCount ss)))))))

length_times : (ss : List Stat) → length ss ≡ all_times ss
length_times [] = refl
length_times (IsConstant ∷ ss) = omega (arith, length_times ss)
length_times (IsSorted ∷ ss) = omega (arith, length_times ss)
length_times (IsStrictSorted ∷ ss) = omega (arith, length_times ss)
length_times (Max ∷ ss) = omega (arith, length_times ss)
length_times (Min ∷ ss) = omega (arith, length_times ss)
length_times (Total ∷ ss) = omega (arith, length_times ss)
length_times (NullCount ∷ ss) = omega (arith, length_times ss)
length_times (UncompressedSizeInBytes ∷ ss) = omega (arith, length_times ss)
length_times (NaNCount ∷ ss) = omega (arith, length_times ss)

times_none : (ss : List Stat) (s : Stat) → has_stat ss s ≡ false → times s ss ≡ 0
times_none [] s h = refl
times_none (t ∷ ss) s h = go (same_stat s t) (times_none ss s) h
  where
    go : (b : Bool) → (has_stat ss s ≡ false → times s ss ≡ 0) → cond b true (has_stat ss s) ≡ false → cond b 1 0 + times s ss ≡ 0
    go true ih e = absurd (true≢false e)
    go false ih e = omega (arith, ih e)

times_once : (ss : List Stat) (s : Stat) → distinct ss ≡ true → times s ss ≤ 1
times_once [] s d = omega arith
times_once (t ∷ ss) s d =
    let parts = and_parts (not (has_stat ss t)) (distinct ss) d in
    go (same_stat s t) refl (not-true (has_stat ss t) parts.0) (times_once ss s parts.1)
  where
    go : (b : Bool) → same_stat s t ≡ b → has_stat ss t ≡ false → times s ss ≤ 1 → cond b 1 0 + times s ss ≤ 1
    go true e h ih = omega (arith, times_none ss s (ap (has_stat ss) (same_stat_is s t e) ∙ h))
    go false e h ih = omega arith

-- a list with none twice, in which one of the nine is missing, has room for it
pub room_for : (ss : List Stat) (s : Stat) → distinct ss ≡ true → has_stat ss s ≡ false → length ss < 9
room_for ss s d h = go s (times_none ss s h)
  where
    once : (t : Stat) → times t ss ≤ 1
    once t = times_once ss t d

    go : (t : Stat) → times t ss ≡ 0 → length ss < 9
    go IsConstant e = omega (arith, length_times ss, e, once IsSorted, once IsStrictSorted, once Max, once Min, once Total, once NullCount, once UncompressedSizeInBytes, once NaNCount)
    go IsSorted e = omega (arith, length_times ss, e, once IsConstant, once IsStrictSorted, once Max, once Min, once Total, once NullCount, once UncompressedSizeInBytes, once NaNCount)
    go IsStrictSorted e = omega (arith, length_times ss, e, once IsConstant, once IsSorted, once Max, once Min, once Total, once NullCount, once UncompressedSizeInBytes, once NaNCount)
    go Max e = omega (arith, length_times ss, e, once IsConstant, once IsSorted, once IsStrictSorted, once Min, once Total, once NullCount, once UncompressedSizeInBytes, once NaNCount)
    go Min e = omega (arith, length_times ss, e, once IsConstant, once IsSorted, once IsStrictSorted, once Max, once Total, once NullCount, once UncompressedSizeInBytes, once NaNCount)
    go Total e = omega (arith, length_times ss, e, once IsConstant, once IsSorted, once IsStrictSorted, once Max, once Min, once NullCount, once UncompressedSizeInBytes, once NaNCount)
    go NullCount e = omega (arith, length_times ss, e, once IsConstant, once IsSorted, once IsStrictSorted, once Max, once Min, once Total, once UncompressedSizeInBytes, once NaNCount)
    go UncompressedSizeInBytes e = omega (arith, length_times ss, e, once IsConstant, once IsSorted, once IsStrictSorted, once Max, once Min, once Total, once NullCount, once NaNCount)
    go NaNCount e = omega (arith, length_times ss, e, once IsConstant, once IsSorted, once IsStrictSorted, once Max, once Min, once Total, once NullCount, once UncompressedSizeInBytes)
