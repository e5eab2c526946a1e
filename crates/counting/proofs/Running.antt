-- What the tally holds after all rows: of each statistic the counted claim.
use Rattle.std.proofs.Common.{◌≡◌, ◌+◌, ◌*◌, ◌^◌, Bool, true, false, cond, ◌&&◌, ltb, List, [], ◌∷◌, length, Some, None, fold, Option, sym, refl, ap, ◌∙◌, arith}
use Rattle.precision.specs.declared.precision.Precision.TheVariants.{Exact, Absent}
use Rattle.precision.specs.Claims.{mapped}
use Rattle.order.specs.Order.{below, above, lesser, greater}
use Rattle.stat.specs.declared.Stat.{Stat}
use Rattle.stat.specs.declared.Stat.TheVariants.{IsConstant, IsSorted, IsStrictSorted, Max, Min, Sum as Total, NullCount, UncompressedSizeInBytes, NaNCount}
use Rattle.statement.specs.declared.StatValue.{StatValue}
use Rattle.statement.specs.declared.StatValue.TheVariants.{Flag, Element, Sum, Count}
use Rattle.rules.specs.Column.{Column, ColumnLaws}
use Rattle.rules.specs.Rows.{Row, elements, nulls}
use Rattle.rules.specs.Merging.{exactly}
use Rattle.rules.specs.Counting.{in_steps, best, summed, counted_claim}
use Rattle.rules.proofs.Totals.{summed_lost}
use Rattle.counting.specs.declared.tally.Seen.{Seen}
use Rattle.counting.specs.declared.tally.Tally.{Tally}
use Rattle.counting.specs.Tallied.{seen_with, level_after, rises_after, least_of, most_of, sum_with, fresh, with_row, tally_claim}
use Rattle.counting.proofs.Even.{no_two_is}

-- one of the elements seen, ahead of the elements to come
abbrev ahead_of : {V : Type 0} → (Seen V → V) → Option (Seen V) → List V → List V
ahead_of part None vs = vs
ahead_of part (Some s) vs = part s ∷ vs

and_true : (b : Bool) → b ≡ (b && true)
and_true true = refl
and_true false = refl

and_more : (a b c : Bool) → ((a && b) && c) ≡ (a && (b && c))
and_more true b c = refl
and_more false b c = refl

module _ {V : Type 0} (ok : V → V → Bool) where
  steps_end : (b : Bool) (seen : Option (Seen V)) → b ≡ (b && in_steps ok (ahead_of (λ s. s.last) seen []))
  steps_end b None = and_true b
  steps_end b (Some s) = and_true b

module _ {V S : Type 0} (k : Column V S) where
  -- the tally after some rows
  abbrev pub run : Tally V S → List (Row V) → Tally V S
  run = fold (with_row k.order k.sums)

  abbrev fed : Tally V S → Row V → Tally V S
  fed = with_row k.order k.sums

  nulls_run : (t : Tally V S) (rows : List (Row V)) → (run t rows).nulls ≡ t.nulls + nulls rows
  nulls_run t [] = omega arith
  nulls_run t (None ∷ rows) = omega (arith, nulls_run (fed t None) rows)
  nulls_run t (Some v ∷ rows) = nulls_run (fed t (Some v)) rows

  sum_end : (o : Option S) → o ≡ summed k o []
  sum_end None = refl
  sum_end (Some s) = refl

  sum_step : (o : Option S) (v : V) (vs : List V) → summed k (sum_with k.sums o v) vs ≡ summed k o (v ∷ vs)
  sum_step None v vs = summed_lost k vs
  sum_step (Some s) v vs = refl

  sum_run : (t : Tally V S) (rows : List (Row V)) → (run t rows).sum ≡ summed k t.sum (elements rows)
  sum_run t [] = sum_end t.sum
  sum_run t (None ∷ rows) = sum_run (fed t None) rows
  sum_run t (Some v ∷ rows) = sum_run (fed t (Some v)) rows ∙ sum_step t.sum v (elements rows)

  abbrev level : V → V → Bool
  level x y = cond (above k.order x y) false true

  level_step : (b : Bool) (seen : Option (Seen V)) (v : V) (vs : List V) → ((b && level_after k.order seen v) && in_steps level ((seen_with k.order seen v).last ∷ vs)) ≡ (b && in_steps level (ahead_of (λ s. s.last) seen (v ∷ vs)))
  level_step b None v vs = ap (λ a. a && in_steps level (v ∷ vs)) (sym (and_true b))
  level_step b (Some s) v vs = and_more b (level s.last v) (in_steps level (v ∷ vs))

  sorted_run : (t : Tally V S) (rows : List (Row V)) → (run t rows).sorted ≡ (t.sorted && in_steps level (ahead_of (λ s. s.last) t.seen (elements rows)))
  sorted_run t [] = steps_end level t.sorted t.seen
  sorted_run t (None ∷ rows) = sorted_run (fed t None) rows
  sorted_run t (Some v ∷ rows) = sorted_run (fed t (Some v)) rows ∙ level_step t.sorted t.seen v (elements rows)

  rises_step : (b : Bool) (seen : Option (Seen V)) (v : V) (vs : List V) → ((b && rises_after k.order seen v) && in_steps (below k.order) ((seen_with k.order seen v).last ∷ vs)) ≡ (b && in_steps (below k.order) (ahead_of (λ s. s.last) seen (v ∷ vs)))
  rises_step b None v vs = ap (λ a. a && in_steps (below k.order) (v ∷ vs)) (sym (and_true b))
  rises_step b (Some s) v vs = and_more b (below k.order s.last v) (in_steps (below k.order) (v ∷ vs))

  strict_run : (t : Tally V S) (rows : List (Row V)) → (run t rows).strict ≡ (t.strict && in_steps (below k.order) (ahead_of (λ s. s.last) t.seen (elements rows)))
  strict_run t [] = steps_end (below k.order) t.strict t.seen
  strict_run t (None ∷ rows) = strict_run (fed t None) rows
  strict_run t (Some v ∷ rows) = strict_run (fed t (Some v)) rows ∙ rises_step t.strict t.seen v (elements rows)

  least_end : (seen : Option (Seen V)) → least_of seen ≡ exactly (best (lesser k.order) (ahead_of (λ s. s.least) seen []))
  least_end None = refl
  least_end (Some s) = refl

  least_step : (seen : Option (Seen V)) (v : V) (vs : List V) → best (lesser k.order) ((seen_with k.order seen v).least ∷ vs) ≡ best (lesser k.order) (ahead_of (λ s. s.least) seen (v ∷ vs))
  least_step None v vs = refl
  least_step (Some s) v vs = refl

  least_run : (t : Tally V S) (rows : List (Row V)) → least_of (run t rows).seen ≡ exactly (best (lesser k.order) (ahead_of (λ s. s.least) t.seen (elements rows)))
  least_run t [] = least_end t.seen
  least_run t (None ∷ rows) = least_run (fed t None) rows
  least_run t (Some v ∷ rows) = least_run (fed t (Some v)) rows ∙ ap exactly (least_step t.seen v (elements rows))

  most_end : (seen : Option (Seen V)) → most_of seen ≡ exactly (best (greater k.order) (ahead_of (λ s. s.most) seen []))
  most_end None = refl
  most_end (Some s) = refl

  most_step : (seen : Option (Seen V)) (v : V) (vs : List V) → best (greater k.order) ((seen_with k.order seen v).most ∷ vs) ≡ best (greater k.order) (ahead_of (λ s. s.most) seen (v ∷ vs))
  most_step None v vs = refl
  most_step (Some s) v vs = refl

  most_run : (t : Tally V S) (rows : List (Row V)) → most_of (run t rows).seen ≡ exactly (best (greater k.order) (ahead_of (λ s. s.most) t.seen (elements rows)))
  most_run t [] = most_end t.seen
  most_run t (None ∷ rows) = most_run (fed t None) rows
  most_run t (Some v ∷ rows) = most_run (fed t (Some v)) rows ∙ ap exactly (most_step t.seen v (elements rows))

  module _ (laws : ColumnLaws k) (rows : List (Row V)) where
    abbrev end : Tally V S
    end = run (fresh k.sums) rows

    nulls_end : end.nulls ≡ nulls rows
    nulls_end = omega (arith, nulls_run (fresh k.sums) rows)

    pub tally_is : (s : Stat) → tally_claim k.order k.sums end (length rows) s ≡ counted_claim k rows s
    tally_is IsConstant = ap (λ b. Exact (Flag b)) (no_two_is k.order laws.ordered rows end.seen end.nulls (least_run (fresh k.sums) rows) (most_run (fresh k.sums) rows) nulls_end)
    tally_is IsSorted = ap (λ b. Exact (Flag b)) (sorted_run (fresh k.sums) rows)
    tally_is IsStrictSorted = ap (λ b. Exact (Flag b)) (strict_run (fresh k.sums) rows)
    tally_is Max = ap (mapped Element) (most_run (fresh k.sums) rows)
    tally_is Min = ap (mapped Element) (least_run (fresh k.sums) rows)
    tally_is Total =
        elim k.sums.has_sums as (λ b. mapped {B = StatValue V S} Sum (cond b (exactly end.sum) Absent) ≡ cond b (mapped Sum (exactly (summed k (Some k.sums.zero) (elements rows)))) Absent) [
          | true ↦ ap (λ o. mapped Sum (exactly o)) (sum_run (fresh k.sums) rows)
          | false ↦ refl
        ]
    tally_is NullCount = ap (λ n. Exact (Count n)) nulls_end
    tally_is UncompressedSizeInBytes =
        let size = length rows * k.sums.width in
        elim (ltb size (2 ^ 64)) as (λ b. mapped {B = StatValue V S} Count (cond b (Exact size) Absent) ≡ cond b (Exact (Count size)) Absent) [ true ↦ refl | false ↦ refl ]
    tally_is NaNCount = refl
