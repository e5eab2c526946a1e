-- Which statistics counting sets, and in which order.
use Rattle.std.proofs.Common.{◌≡◌, ℕ, ◌*◌, ◌^◌, Bool, true, false, cond, not, ◌&&◌, ltb, List, [], ◌∷◌, ◌++◌, length, Some, None, Option, sym, refl, ap, ◌∙◌, append_assoc, append-nil}
use mathlib.Core.Bool.{not-not}
use Rattle.std.proofs.lemmas.Bool.{true≢false, false≢true, cond-true, cond-false, not-true, and_parts}
use Rattle.stat.specs.declared.Stat.{Stat}
use Rattle.stat.specs.declared.Stat.TheVariants.{IsConstant, IsSorted, IsStrictSorted, Max, Min, Sum as Total, NullCount, UncompressedSizeInBytes, NaNCount}
use Rattle.precision.specs.declared.precision.Precision.TheVariants.{Exact, Absent}
use Rattle.statement.specs.declared.StatValue.{StatValue}
use Rattle.statement.specs.declared.StatValue.TheVariants.{Element, Sum, Count}
use Rattle.rules.specs.Column.{Column}
use Rattle.rules.specs.Rows.{Row, Every, elements}
use Rattle.rules.specs.Claims.{some?, settable}
use Rattle.statement.specs.Kinds.{Claim, stated}
use Rattle.stat.specs.Stats.{same_stat, all_stats}
use Rattle.precision.specs.Claims.{is_absent, mapped}
use Rattle.order.specs.Order.{lesser, greater}
use Rattle.rules.specs.Merging.{exactly}
use Rattle.rules.specs.Sets.{Entries, Proper, chosen, stats_of, got, has, without, replaced, put}
use Rattle.rules.specs.Counting.{best, summed, any_element, counted_claim, counted_over, counted, is_counted}
use Rattle.rules.proofs.Claims.{kind_settable}
use Rattle.rules.proofs.Sets.{cond_either, same_stat_is, neither, every_put_nine, got_put_nine, apart_put_all}

-- no statistic of the list is s, and no two of the list are one: tests that compute
abbrev apart_from : Stat → List Stat → Bool
apart_from s [] = true
apart_from s (r ∷ rs) = not (same_stat r s) && apart_from s rs

abbrev distinct : List Stat → Bool
distinct [] = true
distinct (s ∷ ss) = apart_from s ss && distinct ss

neither_from : (b r : Bool) → b ≡ false → r ≡ false → cond b true r ≡ false
neither_from b r h k = cond-false b true r h ∙ k

module _ {V S : Type 0} where
  -- an entry's claim, where it has one
  abbrev pub entry : Stat → Claim V S → Entries V S
  entry s c = cond (is_absent c) [] (stated s c ∷ [])

  without_new : (es : Entries V S) (s : Stat) → has es s ≡ false → without es s ≡ es
  without_new [] s h = refl
  without_new (e ∷ es) s h =
      let n = neither (same_stat s e.stat) (has es s) h in
      cond-false (same_stat s e.stat) (without es s) (e ∷ without es s) n.0 ∙ ap (λ r. e ∷ r) (without_new es s n.1)

  -- what is put in for the first time stands last
  put_new : (es : Entries V S) (s : Stat) (c : Claim V S) → has es s ≡ false → put es s c ≡ es ++ entry s c
  put_new es s c h =
      elim (is_absent c) as (λ b. cond b (without es s) (cond (has es s) (replaced es s c) (es ++ (stated s c ∷ []))) ≡ es ++ cond b [] (stated s c ∷ [])) [
        | true ↦ without_new es s h ∙ sym (append-nil es)
        | false ↦ cond-false (has es s) (replaced es s c) (es ++ (stated s c ∷ [])) h
      ]

  has_after : (es fs : Entries V S) (s : Stat) → has es s ≡ false → has fs s ≡ false → has (es ++ fs) s ≡ false
  has_after [] fs s h k = k
  has_after (e ∷ es) fs s h k =
      let n = neither (same_stat s e.stat) (has es s) h in
      neither_from (same_stat s e.stat) (has (es ++ fs) s) n.0 (has_after es fs s n.1 k)

  has_entry : (r s : Stat) (c : Claim V S) → same_stat r s ≡ false → has (entry s c) r ≡ false
  has_entry r s c h = cond_either (λ es. has es r ≡ false) (is_absent c) [] (stated s c ∷ []) refl (neither_from (same_stat r s) false h refl)

  all_new : (es : Entries V S) (s : Stat) (c : Claim V S) (ss : List Stat) → apart_from s ss ≡ true → Every (λ r. has es r ≡ false) ss → Every (λ r. has (es ++ entry s c) r ≡ false) ss
  all_new es s c [] a h = tt
  all_new es s c (r ∷ ss) a h =
      let p = and_parts (not (same_stat r s)) (apart_from s ss) a in
      (has_after es (entry s c) r h.0 (has_entry r s c (not-true (same_stat r s) p.0)), all_new es s c ss p.1 h.1)

  -- the claims of a function, where it has one, in the order of the statistics
  abbrev pub told : (Stat → Claim V S) → List Stat → Entries V S
  told f [] = []
  told f (s ∷ ss) = cond (is_absent (f s)) (told f ss) (stated s (f s) ∷ told f ss)

  entry_told : (s : Stat) (c : Claim V S) (rest : Entries V S) → entry s c ++ rest ≡ cond (is_absent c) rest (stated s c ∷ rest)
  entry_told s c rest = elim (is_absent c) as (λ b. cond b [] (stated s c ∷ []) ++ rest ≡ cond b rest (stated s c ∷ rest)) [ true ↦ refl | false ↦ refl ]

  stats_told : (f : Stat → Claim V S) (test : Stat → Bool) → ((s : Stat) → is_absent (f s) ≡ not (test s)) → (ss : List Stat) → stats_of (told f ss) ≡ chosen test ss
  stats_told f test each [] = refl
  stats_told f test each (s ∷ ss) =
      let rest = stats_told f test each ss in
      rw (each s)
      (elim (test s) as (λ b. stats_of (cond (not b) (told f ss) (stated s (f s) ∷ told f ss)) ≡ cond b (s ∷ chosen test ss) (chosen test ss)) [
        | true ↦ ap (λ r. s ∷ r) rest
        | false ↦ rest
      ])

module _ {V S : Type 0} (k : Column V S) (rows : List (Row V)) where
  counted_over_told : (ss : List Stat) (es : Entries V S) → distinct ss ≡ true → Every (λ r. has es r ≡ false) ss → counted_over k rows ss es ≡ es ++ told (counted_claim k rows) ss
  counted_over_told [] es d h = sym (append-nil es)
  counted_over_told (s ∷ ss) es d h =
      let c = counted_claim k rows s in
      let p = and_parts (apart_from s ss) (distinct ss) d in
      ap (counted_over k rows ss) (put_new es s c h.0)
      ∙ counted_over_told ss (es ++ entry s c) p.1 (all_new es s c ss p.0 h.1)
      ∙ append_assoc es (entry s c) (told (counted_claim k rows) ss)
      ∙ ap (λ r. es ++ r) (entry_told s c (told (counted_claim k rows) ss))

  -- the counted set is the counted claims that there are, in the order of the statistics
  pub counted_told : counted k rows ≡ told (counted_claim k rows) all_stats
  counted_told = counted_over_told all_stats [] refl (refl, (refl, (refl, (refl, (refl, (refl, (refl, (refl, (refl, tt)))))))))

  -- there is a best exactly if there is an element
  some_best : (pick : V → V → V) (x : V) (vs : List V) → is_absent {A = StatValue V S} (mapped Element (exactly (best pick (x ∷ vs)))) ≡ false
  some_best pick x [] = refl
  some_best pick x (y ∷ vs) = some_best pick (pick x y) vs

  absent_best : (pick : V → V → V) (vs : List V) → is_absent {A = StatValue V S} (mapped Element (exactly (best pick vs))) ≡ not (any_element vs)
  absent_best pick [] = refl
  absent_best pick (x ∷ vs) = some_best pick x vs

  absent_sum : (o : Option S) → is_absent {A = StatValue V S} (mapped Sum (exactly o)) ≡ not (some? o)
  absent_sum (Some u) = refl
  absent_sum None = refl

  absent_counted : (s : Stat) → is_absent (counted_claim k rows s) ≡ not (is_counted k rows s)
  absent_counted IsConstant = refl
  absent_counted IsSorted = refl
  absent_counted IsStrictSorted = refl
  absent_counted Max = absent_best (greater k.order) (elements rows)
  absent_counted Min = absent_best (lesser k.order) (elements rows)
  absent_counted Total =
      let total = summed k (Some k.sums.zero) (elements rows) in
      elim k.sums.has_sums as (λ b. is_absent {A = StatValue V S} (cond b (mapped Sum (exactly total)) Absent) ≡ not (b && some? total)) [
        | true ↦ absent_sum total
        | false ↦ refl
      ]
  absent_counted NullCount = refl
  absent_counted UncompressedSizeInBytes =
      let size = length rows * k.sums.width in
      elim (ltb size (2 ^ 64)) as (λ b. is_absent {A = StatValue V S} (cond b (Exact (Count size)) Absent) ≡ not b) [ true ↦ refl | false ↦ refl ]
  absent_counted NaNCount = refl

  pub counted_stats : stats_of (counted k rows) ≡ chosen (is_counted k rows) all_stats
  counted_stats = ap stats_of counted_told ∙ stats_told (counted_claim k rows) (is_counted k rows) absent_counted all_stats

-- Reading the counted set: of each statistic the counted claim, which is there exactly if counting sets it.
abbrev listed : Stat → List Stat → Bool
listed s [] = false
listed s (r ∷ rs) = cond (same_stat s r) true (listed s rs)

all_listed : (s : Stat) → listed s all_stats ≡ true
all_listed IsConstant = refl
all_listed IsSorted = refl
all_listed IsStrictSorted = refl
all_listed Max = refl
all_listed Min = refl
all_listed Total = refl
all_listed NullCount = refl
all_listed UncompressedSizeInBytes = refl
all_listed NaNCount = refl

and_not_true : (b a : Bool) → a ≡ true → (b && not a) ≡ not a
and_not_true true a h = refl
and_not_true false true h = refl
and_not_true false false h = absurd (false≢true h)

module _ {V S : Type 0} (f : Stat → Claim V S) where
  has_told : (ss : List Stat) (s : Stat) → has (told f ss) s ≡ (listed s ss && not (is_absent (f s)))
  has_told [] s = refl
  has_told (r ∷ ss) s = step (same_stat s r) (is_absent (f r)) (same_stat_is s r) refl refl (has_told ss s)
    where
      step : (b a : Bool) → (b ≡ true → s ≡ r) → same_stat s r ≡ b → is_absent (f r) ≡ a → has (told f ss) s ≡ (listed s ss && not (is_absent (f s))) → has (cond a (told f ss) (stated r (f r) ∷ told f ss)) s ≡ (cond b true (listed s ss) && not (is_absent (f s)))
      step true true same e h rest = rest ∙ and_not_true (listed s ss) (is_absent (f s)) (ap (λ t. is_absent (f t)) (same refl) ∙ h)
      step true false same e h rest = cond-true (same_stat s r) true (has (told f ss) s) e ∙ sym (ap not (ap (λ t. is_absent (f t)) (same refl) ∙ h))
      step false true same e h rest = rest
      step false false same e h rest = cond-false (same_stat s r) true (has (told f ss) s) e ∙ rest

module _ (V S : Type 0) where
  sum_set : (sums : Bool) (o : Option S) → is_absent {A = StatValue V S} (cond sums (mapped Sum (exactly o)) Absent) ≡ false → settable {V = V} {S = S} sums Total (cond sums (mapped Sum (exactly o)) Absent) ≡ true
  sum_set true (Some s) h = refl
  sum_set true None h = absurd (true≢false h)
  sum_set false o h = absurd (true≢false h)

  size_set : (sums fits : Bool) (n : ℕ) → is_absent {A = StatValue V S} (cond fits (Exact (Count n)) Absent) ≡ false → settable {V = V} {S = S} sums UncompressedSizeInBytes (cond fits (Exact (Count n)) Absent) ≡ true
  size_set sums true n h = refl
  size_set sums false n h = absurd (true≢false h)

module _ {V S : Type 0} (k : Column V S) (rows : List (Row V)) where
  pub counted_got : (s : Stat) → got (counted k rows) s ≡ counted_claim k rows s
  counted_got s = got_put_nine (counted_claim k rows) [] s

  pub counted_has : (s : Stat) → has (counted k rows) s ≡ is_counted k rows s
  counted_has s =
      ap (λ es. has es s) (counted_told k rows) ∙ has_told (counted_claim k rows) all_stats s
      ∙ ap (λ b. b && not (is_absent (counted_claim k rows s))) (all_listed s)
      ∙ ap not (absent_counted k rows s) ∙ not-not (is_counted k rows s)

  -- each counted claim that is there is one that `set` takes
  pub counted_claim_settable : (s : Stat) → is_absent (counted_claim k rows s) ≡ false → settable k.sums.has_sums s (counted_claim k rows s) ≡ true
  counted_claim_settable IsConstant h = refl
  counted_claim_settable IsSorted h = refl
  counted_claim_settable IsStrictSorted h = refl
  counted_claim_settable Max h = kind_settable k.sums.has_sums Max Element (λ v. refl) (exactly (best (greater k.order) (elements rows))) h
  counted_claim_settable Min h = kind_settable k.sums.has_sums Min Element (λ v. refl) (exactly (best (lesser k.order) (elements rows))) h
  counted_claim_settable Total h = sum_set V S k.sums.has_sums (summed k (Some k.sums.zero) (elements rows)) h
  counted_claim_settable NullCount h = refl
  counted_claim_settable UncompressedSizeInBytes h = size_set V S k.sums.has_sums (ltb (length rows * k.sums.width) (2 ^ 64)) (length rows * k.sums.width) h
  counted_claim_settable NaNCount h = refl

  pub counted_proper : Proper k.sums.has_sums (counted k rows)
  counted_proper =
      record {
        settable = every_put_nine (counted_claim k rows) (λ e. settable k.sums.has_sums e.stat e.claim ≡ true) counted_claim_settable [];
        apart = apart_put_all (counted_claim k rows) all_stats [] tt;
      }
