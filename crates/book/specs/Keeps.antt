-- When the two tables of an index, and the numbers beside them, keep a book.
use Rattle.std.specs.Prelude.{◌≡◌, ℕ, ◌≤◌, Bool, List, length, take}
use Rattle.rules.specs.Rows.{Row, Every}
use Rattle.rules.specs.Claims.{some?}
use Rattle.book.specs.Book.{Zone, Book, zone_of}
use Rattle.book.specs.Chains.{Filed, next_of}
use Rattle.book.specs.Law.{spans_in, Linked, SetsStand}
use Rattle.book.specs.Sound.{Sound, Fits}
use Rattle.book.specs.State.{State, flag_at}

-- whether n is a live zone's number
abbrev pub is_live : {V S : Type 0} → List (Zone V S) → ℕ → Bool
is_live zs n = some? (zone_of zs n)

-- cells: the row table, of which `filled` cells are filled and `closed` closed; table: the record table, of which `used`
-- records are in use; live: the flag of each record
pub record Carries {V S : Type 0} (cells : List (Row V)) (filled closed used : ℕ) (table : List (Filed V S)) (live : ℕ → Bool) (b : Book V S) : Type 0 where
  pub room : filled ≤ length cells
  pub rows : take filled cells ≡ b.rows
  pub closes : closed ≡ b.closed
  pub places : used ≤ length table
  pub spans : spans_in (take used table) ≡ b.spans
  pub linked : Every (Linked (next_of table)) b.zones
  pub flagged : (n : ℕ) → 1 ≤ n → n ≤ used → live n ≡ is_live b.zones n

-- the tables hold the book's rows, spans, chains and sets; the book is sound, and they have room for it
pub record Keeps {V S : Type 0} (s : State V S) (b : Book V S) : Type 0 where
  pub sound : Sound b
  pub fits : Fits (length s.cells) (length s.table) b
  pub carries : Carries s.cells s.filled s.closed s.used s.table (flag_at s.live) b
  pub flags : length s.live ≡ 1024
  pub sets : SetsStand s.table b
