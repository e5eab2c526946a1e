-- What counting keeps while it goes through the rows, row after row, and the claims that it comes to.
use Rattle.std.specs.Prelude.{ℕ, ◌+◌, ◌*◌, ◌^◌, Bool, true, false, cond, ◌&&◌, List, [], ◌∷◌, Some, None, fold, Option, ◌==◌, nat_lt}
use Rattle.std.specs.declared.cmp.Ordering.{Ordering}
use Rattle.order.specs.Order.{below, above, same, lesser, greater}
use Rattle.precision.specs.declared.precision.Precision.{Precision}
use Rattle.precision.specs.declared.precision.Precision.TheVariants.{Exact, Absent}
use Rattle.precision.specs.Claims.{mapped, is_absent}
use Rattle.stat.specs.declared.Stat.{Stat}
use Rattle.stat.specs.declared.Stat.TheVariants.{IsConstant, IsSorted, IsStrictSorted, Max, Min, Sum as Total, NullCount, UncompressedSizeInBytes, NaNCount}
use Rattle.statement.specs.declared.StatValue.TheVariants.{Flag, Element, Sum, Count}
use Rattle.rules.specs.Column.{Sums}
use Rattle.rules.specs.Rows.{Row}
use Rattle.statement.specs.Kinds.{Claim, stated}
use Rattle.rules.specs.Merging.{exactly}
use Rattle.rules.specs.Sets.{Entries, put}
use Rattle.counting.specs.declared.tally.Seen.{Seen}
use Rattle.counting.specs.declared.tally.Tally.{Tally}

module _ {V : Type 0} (order : V → V → Ordering) where
  -- the least, the greatest and the last with one element more
  abbrev pub seen_with : Option (Seen V) → V → Seen V
  seen_with None v = record { least = v; most = v; last = v }
  seen_with (Some s) v = record { least = lesser order s.least v; most = greater order s.most v; last = v }

  -- whether the element is not below the last, and whether it is above the last
  abbrev pub level_after : Option (Seen V) → V → Bool
  level_after None v = true
  level_after (Some s) v = cond (above order s.last v) false true

  abbrev pub rises_after : Option (Seen V) → V → Bool
  rises_after None v = true
  rises_after (Some s) v = below order s.last v

  -- every row is null, or none is and the least element is the greatest
  abbrev pub no_two : Option (Seen V) → ℕ → Bool
  no_two None nulls = true
  no_two (Some s) nulls = nulls == 0 && same order s.least s.most

-- the claims of the least and the greatest element
abbrev pub least_of : {V : Type 0} → Option (Seen V) → Precision V
least_of None = Absent
least_of (Some s) = Exact s.least

abbrev pub most_of : {V : Type 0} → Option (Seen V) → Precision V
most_of None = Absent
most_of (Some s) = Exact s.most

module _ {V S : Type 0} (sums : Sums V S) where
  -- the running total with one element more
  abbrev pub sum_with : Option S → V → Option S
  sum_with None v = None
  sum_with (Some s) v = sums.plus s (sums.single v)

  -- before the first row
  abbrev pub fresh : Tally V S
  fresh = record { seen = None; sorted = true; strict = true; nulls = 0; sum = Some sums.zero }

module _ {V S : Type 0} (order : V → V → Ordering) (sums : Sums V S) where
  -- one row more
  abbrev pub with_row : Tally V S → Row V → Tally V S
  with_row t None = record { seen = t.seen; sorted = t.sorted; strict = t.strict; nulls = t.nulls + 1; sum = t.sum }
  with_row t (Some v) =
      record {
        seen = Some (seen_with order t.seen v);
        sorted = t.sorted && level_after order t.seen v;
        strict = t.strict && rises_after order t.seen v;
        nulls = t.nulls;
        sum = sum_with sums t.sum v;
      }

  -- the claim of a statistic, for so many rows
  abbrev pub tally_claim : Tally V S → ℕ → Stat → Claim V S
  tally_claim t rows IsConstant = Exact (Flag (no_two order t.seen t.nulls))
  tally_claim t rows IsSorted = Exact (Flag t.sorted)
  tally_claim t rows IsStrictSorted = Exact (Flag t.strict)
  tally_claim t rows Max = mapped Element (most_of t.seen)
  tally_claim t rows Min = mapped Element (least_of t.seen)
  tally_claim t rows Total = mapped Sum (cond sums.has_sums (exactly t.sum) Absent)
  tally_claim t rows NullCount = Exact (Count t.nulls)
  tally_claim t rows UncompressedSizeInBytes = mapped Count (cond (nat_lt (rows * sums.width) (2 ^ 64)) (Exact (rows * sums.width)) Absent)
  tally_claim t rows NaNCount = Exact (Count 0)

-- the claims of several statistics, put in one after the other
abbrev pub all_put : {V S : Type 0} → (Stat → Claim V S) → List Stat → Entries V S
all_put f ss = fold (λ es s. put es s (f s)) [] ss

-- the claims of a function that are there, in the order of the statistics
abbrev pub present : {V S : Type 0} → (Stat → Claim V S) → List Stat → Entries V S
present f [] = []
present f (s ∷ ss) = cond (is_absent (f s)) (present f ss) (stated s (f s) ∷ present f ss)
