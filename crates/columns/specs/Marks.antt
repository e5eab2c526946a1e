-- Marks: their order, their bytes, and what stands for the sums that they have not.
use Rattle.std.specs.Prelude.{◌≡◌, ℕ, ◌/◌, ◌%◌, ◌^◌, ◌<◌, false, List, [], ◌∷◌, ◌++◌, pos, None}
use Rattle.std.specs.declared.cmp.Ordering.TheVariants.{Less, Equal, Greater}
use Rattle.std.specs.declared.cmp.Ordering.{Ordering}
use Rattle.std.specs.Ordering.{ordering_then}
use Rattle.columns.specs.declared.mark.Mark.{Mark}
use Rattle.columns.specs.declared.measure.Measure.{Measure}
use Rattle.columns.specs.Measures.{measure_sums}
use Rattle.order.specs.Order.{count_order}
use Rattle.rules.specs.Column.{Sums}

abbrev pub mark : ℕ → ℕ → Mark
mark lot piece = record { lot = lot; piece = piece }

-- by lot, and of one lot by piece
abbrev pub mark_order : Mark → Mark → Ordering
mark_order x y = ordering_then (count_order x.lot y.lot) (count_order x.piece y.piece)

-- a number's four bytes, the most significant first
abbrev pub four_bytes : ℕ → List ℕ
four_bytes n = (n / 16777216 % 256) ∷ (n / 65536 % 256) ∷ (n / 256 % 256) ∷ (n % 256) ∷ []

abbrev pub mark_bytes : Mark → List ℕ
mark_bytes m = four_bytes m.lot ++ four_bytes m.piece

-- the first two bytes that differ decide
abbrev pub bytes_order : List ℕ → List ℕ → Ordering
bytes_order [] [] = Equal
bytes_order [] (y ∷ ys) = Less
bytes_order (x ∷ xs) [] = Greater
bytes_order (x ∷ xs) (y ∷ ys) = ordering_then (count_order x y) (bytes_order xs ys)

-- both numbers fit 32 bits
abbrev pub Narrow : Mark → Type 0
Narrow m = (m.lot < 2 ^ 32) × (m.piece < 2 ^ 32)

-- the bytes compare with those of any mark as the mark does
abbrev pub SortsBytes : Mark → List ℕ → Type 0
SortsBytes m bytes = (other : Mark) → Narrow other → bytes_order bytes (mark_bytes other) ≡ mark_order m other

-- marks stand for no number and have no sums
abbrev pub mark_sums : Sums Mark Measure
mark_sums =
    record {
      width = 8;
      has_sums = false;
      number = λ m. pos 0;
      total = λ s. s.value;
      zero = measure_sums.zero;
      single = λ m. measure_sums.zero;
      plus = λ a b. None;
    }
