-- What holds of every book: its zones, chains and spans.
use Rattle.std.specs.Prelude.{◌≡◌, ℕ, ◌+◌, ◌<◌, ◌≤◌, List, [], ◌∷◌, length}
use Rattle.rules.specs.Rows.{Every}
use Rattle.book.specs.Book.{Span, Zone, Book, from_to, usable_cells, usable_records}
use Rattle.book.specs.Chains.{InUse, occurs}
use Rattle.book.specs.Law.{all_records, all_cells}

-- the zones' numbers rise strictly, the first above n
abbrev pub RiseAbove : {V S : Type 0} → ℕ → List (Zone V S) → Type 0
RiseAbove n [] = Unit {0}
RiseAbove n (z ∷ zs) = (n < z.number) × RiseAbove z.number zs

-- a zone's chain begins with its number
abbrev pub Headed : {V S : Type 0} → Zone V S → Type 0
Headed z = (rest : List ℕ) × (z.chain ≡ z.number ∷ rest)

-- a zone's chain is of records in use
abbrev pub ChainUsed : {V S : Type 0} → ℕ → Zone V S → Type 0
ChainUsed used z = Every (InUse used) z.chain

-- spans of at least one row each, one behind the other
abbrev pub Tiles : ℕ → List Span → ℕ → Type 0
Tiles from [] to = from ≡ to
Tiles from (s ∷ ss) to = (s.first ≡ from) × (1 ≤ s.count) × Tiles (from + s.count) ss to

pub record Sound {V S : Type 0} (b : Book V S) : Type 0 where
  pub rising : RiseAbove 0 b.zones
  pub headed : Every Headed b.zones
  -- all chains together hold each record in use exactly once, and no other
  pub records : (n : ℕ) → occurs n (all_records b) ≡ occurs n (from_to 1 (length b.spans))
  -- and along them each closed cell lies exactly once, and no other
  pub cells : (c : ℕ) → occurs c (all_cells b) ≡ occurs c (from_to 0 b.closed)
  pub tiled : Tiles 0 b.spans b.closed
  pub within : b.closed ≤ length b.rows

-- a book that the tables have room for
pub record Fits {V S : Type 0} (row_table record_table : ℕ) (b : Book V S) : Type 0 where
  pub rows : length b.rows ≤ usable_cells row_table
  pub records : length b.spans ≤ usable_records record_table
