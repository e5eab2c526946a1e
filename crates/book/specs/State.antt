-- The two tables of an index with the numbers beside them, and what each call does to them and answers.
use Rattle.std.specs.Prelude.{ℕ, ◌+◌, ◌-◌, Bool, true, false, cond, not, ◌&&◌, List, [], ◌∷◌, ◌++◌, length, take, drop, replicate, Some, None, sum_by, filter, ◌==◌, nat_lt, slice_index_or, slice_set}
use Rattle.std.specs.List.{flat_map}
use Rattle.rules.specs.Column.{Column}
use Rattle.rules.specs.Rows.{Row}
use Rattle.rules.specs.Sets.{Entries, got, without, retained}
use Rattle.rules.specs.Merging.{merged}
use Rattle.rules.specs.Combining.{combined, against}
use Rattle.rules.specs.Counting.{counted}
use Rattle.book.specs.Book.{Call, append, close, merge, combine, clear, retain_only, get, seek, usable_cells, usable_records, from_to, row_at, cells_along}
use Rattle.book.specs.Chains.{Filed, record_at, next_of, linked_to, with_set, walked, last_of}
use Rattle.book.specs.Law.{spans_in, written_into}
use Rattle.book.specs.Replies.{Reply, cell, zone, steps, clear_done, retain_done, claim, found, declines, unless_against, room_of}

-- the row table with its filled and its closed cells, the record table with its records in use, and a flag for each record: whether it is a live zone's
pub record State (V S : Type 0) : Type 0 where
  pub cells : List (Row V)
  pub filled : ℕ
  pub closed : ℕ
  pub table : List (Filed V S)
  pub used : ℕ
  pub live : List Bool

-- a new index over two tables
abbrev pub opened : {V S : Type 0} → List (Row V) → List (Filed V S) → State V S
opened cells table = record { cells = cells; filled = 0; closed = 0; table = table; used = 0; live = replicate 1024 false }

abbrev pub flag_at : List Bool → ℕ → Bool
flag_at live n = slice_index_or live (n - 1) false

module _ {V S : Type 0} where
  -- whether n is a live zone's number
  abbrev pub zone? : State V S → ℕ → Bool
  zone? s n = not (n == 0) && (nat_lt (n - 1) s.used && flag_at s.live n)

  -- the set of record n, and the chain that begins there
  abbrev pub set_of : State V S → ℕ → Entries V S
  set_of s n = (record_at s.table n).set

  abbrev pub chain_at : State V S → ℕ → List ℕ
  chain_at s n = walked (next_of s.table) s.used n

  -- the rows since the last close
  abbrev pub open_rows : State V S → List (Row V)
  open_rows s = take (s.filled - s.closed) (drop s.closed s.cells)

  -- with another record table
  abbrev pub with_table : State V S → List (Filed V S) → State V S
  with_table s t = record { cells = s.cells; filled = s.filled; closed = s.closed; table = t; used = s.used; live = s.live }

  -- the table with another set of record n, and with another next
  abbrev pub set_put : List (Filed V S) → ℕ → Entries V S → List (Filed V S)
  set_put table n es = slice_set table (n - 1) (with_set (record_at table n) es)

  abbrev pub next_put : List (Filed V S) → ℕ → ℕ → List (Filed V S)
  next_put table n m = slice_set table (n - 1) (linked_to (record_at table n) m)

  abbrev pub row_put : State V S → Row V → State V S
  row_put s row = record { cells = slice_set s.cells s.filled row; filled = s.filled + 1; closed = s.closed; table = s.table; used = s.used; live = s.live }

  -- a live zone's entries changed
  abbrev pub set_by : State V S → ℕ → (Entries V S → Entries V S) → State V S
  set_by s n f = cond (zone? s n) (with_table s (set_put s.table n (f (set_of s n)))) s

  -- the cells of a zone's matching rows, in chain order
  abbrev pub cells_from : State V S → ℕ → List ℕ
  cells_from s n = cells_along (spans_in s.table) (chain_at s n)

  abbrev pub hits_from : (Row V → Bool) → State V S → ℕ → List ℕ
  hits_from hits s n = filter (λ c. hits (row_at s.cells c)) (cells_from s n)

  module _ (hits : Row V → Bool) (skips : Entries V S → Bool) (s : State V S) where
    -- what a search writes for number n, and whether it passes over a zone of that number
    abbrev pub found_at : ℕ → List ℕ
    found_at n = cond (zone? s n) (cond (skips (set_of s n)) [] (hits_from hits s n)) []

    abbrev pub passed_at : ℕ → ℕ
    passed_at n = cond (zone? s n) (cond (skips (set_of s n)) 1 0) 0

    abbrev pub found_in : List ℕ → List ℕ
    found_in = flat_map found_at

    abbrev pub passed_in : List ℕ → ℕ
    passed_in = sum_by passed_at

    -- by rising number of all records in use
    abbrev pub all_found : List ℕ
    all_found = found_in (from_to 1 s.used)

    abbrev pub all_passed : ℕ
    all_passed = passed_in (from_to 1 s.used)

module _ {V S : Type 0} (k : Column V S) where
  -- the open rows as the next record
  abbrev pub filed : State V S → Filed V S
  filed s = record { first = s.closed; rows = s.filled - s.closed; next = 0; set = counted k (open_rows s) }

  abbrev pub record_put : State V S → State V S
  record_put s = record { cells = s.cells; filled = s.filled; closed = s.filled; table = slice_set s.table s.used (filed s); used = s.used + 1; live = slice_set s.live s.used true }

  -- record c as next of the last record of a's chain, the merged set in record a, and c's flag down
  abbrev pub link_put : Bool → ℕ → ℕ → State V S → State V S
  link_put in_order a c s =
      record {
        cells = s.cells;
        filled = s.filled;
        closed = s.closed;
        table = next_put (set_put s.table a (merged k in_order (set_of s a) (set_of s c))) (last_of a (chain_at s a)) c;
        used = s.used;
        live = slice_set s.live (c - 1) false;
      }

  abbrev pub state_after : State V S → Call V S → State V S
  state_after s (append row) = cond (nat_lt s.filled (usable_cells (length s.cells))) (row_put s row) s
  state_after s close = cond (nat_lt s.closed s.filled && nat_lt s.used (usable_records (length s.table))) (record_put s) s
  state_after s (merge in_order a c) = cond (zone? s a && (zone? s c && not (a == c))) (link_put in_order a c s) s
  state_after s (combine n told) = set_by s n (combined k told)
  state_after s (clear n st) = set_by s n (λ es. without es st)
  state_after s (retain_only n keep) = set_by s n (retained keep)
  state_after s (get n st) = s
  state_after s (seek hits skips room) = s

  abbrev pub if_zone : State V S → ℕ → Reply V S → Reply V S
  if_zone s n r = cond (zone? s n) r (declines 3 (Some n))

  abbrev pub state_reply : State V S → Call V S → Reply V S
  state_reply s (append row) = cond (nat_lt s.filled (usable_cells (length s.cells))) (cell s.filled) (declines 5 None)
  state_reply s close =
      cond (nat_lt s.closed s.filled)
      (cond (nat_lt s.used (usable_records (length s.table))) (zone (s.used + 1)) (declines 6 None))
      (declines 7 None)
  state_reply s (merge in_order a c) = if_zone s a (if_zone s c (cond (a == c) (declines 4 None) (steps (length (chain_at s a)))))
  state_reply s (combine n told) = if_zone s n (unless_against (against k told (set_of s n)))
  state_reply s (clear n st) = if_zone s n clear_done
  state_reply s (retain_only n keep) = if_zone s n retain_done
  state_reply s (get n st) = if_zone s n (claim (got (set_of s n) st))
  state_reply s (seek hits skips room) =
      cond (nat_lt room s.closed) (declines 8 None) (found (length (all_found hits skips s)) (all_passed hits skips s))

-- a search's part of the buffer after it
abbrev pub state_wrote : {V S : Type 0} → State V S → Call V S → List ℕ → List ℕ
state_wrote s (append row) part = part
state_wrote s close part = part
state_wrote s (merge in_order a c) part = part
state_wrote s (combine n told) part = part
state_wrote s (clear n st) part = part
state_wrote s (retain_only n keep) part = part
state_wrote s (get n st) part = part
state_wrote s (seek hits skips room) part = cond (nat_lt room s.closed) part (written_into part (all_found hits skips s))

-- a list of calls
module _ {V S : Type 0} (k : Column V S) where
  abbrev pub state_all : State V S → List (Call V S) → State V S
  state_all s [] = s
  state_all s (c ∷ cs) = state_all (state_after k s c) cs

  abbrev pub state_replies : State V S → List (Call V S) → List (Reply V S)
  state_replies s [] = []
  state_replies s (c ∷ cs) = state_reply k s c ∷ state_replies (state_after k s c) cs

  abbrev pub state_all_wrote : State V S → List (Call V S) → List ℕ → List ℕ
  state_all_wrote s [] buffer = buffer
  state_all_wrote s (c ∷ cs) buffer = state_wrote s c (take (room_of c) buffer) ++ state_all_wrote (state_after k s c) cs (drop (room_of c) buffer)
