-- What a call owes, and the law of every run on a new index, for every column of elements V with sums S.
use Rattle.std.specs.Prelude.{◌≡◌, ℕ, ◌+◌, ◌<◌, List, [], ◌∷◌, ◌++◌, length, take, drop}
use Rattle.rules.specs.Column.{Column}
use Rattle.rules.specs.Rows.{Row}
use Rattle.book.specs.Book.{Book, Call, append, close, merge, combine, clear, retain_only, get, seek, fresh, after, after_all}
use Rattle.book.specs.Chains.{Filed}
use Rattle.book.specs.Law.{AllSaidTrue, SetsStand, SetsTrue, ChainsStand, Found}
use Rattle.book.specs.Replies.{Reply, found, reply, replies, room_of, all_wrote}
use Rattle.book.specs.State.{State, opened, state_after, state_reply, state_all}
use Rattle.book.specs.Keeps.{Keeps}

-- a call takes the state s to t and answers r:
pub record Performs {V S : Type 0} (k : Column V S) (call : Call V S) (s t : State V S) (r : Reply V S) : Type 0 where
  -- what it does to the tables, and what it answers, by what they hold;
  pub state : t ≡ state_after k s call
  pub answer : r ≡ state_reply k s call
  -- and every book that they kept before is kept as the call leaves it, and answers the same
  pub kept : (b : Book V S) → Keeps s b → Keeps t (after k (length s.cells) (length s.table) b call)
  pub replied : (b : Book V S) → Keeps s b → r ≡ reply k (length s.cells) (length s.table) b call

-- the rooms of a list of calls, together
abbrev pub rooms : {V S : Type 0} → List (Call V S) → ℕ
rooms [] = 0
rooms (c ∷ cs) = room_of c + rooms cs

module _ {V S : Type 0} (k : Column V S) (row_table record_table : ℕ) where
  -- a search's part of the buffer before and after: where it was not declined it has found what there is to be found, else the part is as it was
  abbrev pub CallFound : Book V S → Call V S → List ℕ → List ℕ → Type 0
  CallFound b (append row) before later = later ≡ before
  CallFound b close before later = later ≡ before
  CallFound b (merge in_order a c) before later = later ≡ before
  CallFound b (combine n told) before later = later ≡ before
  CallFound b (clear n s) before later = later ≡ before
  CallFound b (retain_only n keep) before later = later ≡ before
  CallFound b (get n s) before later = later ≡ before
  CallFound b (seek hits skips room) before later =
      ((matches passed : ℕ) → reply k row_table record_table b (seek hits skips room) ≡ found matches passed → Found hits skips b before later matches passed)
      × (room < b.closed → later ≡ before)

  -- each search of a list, on the book after the calls before it, in its own part of the buffer; what is left of the buffer is as it was
  abbrev pub AllFound : Book V S → List (Call V S) → List ℕ → List ℕ → Type 0
  AllFound b [] before later = later ≡ before
  AllFound b (c ∷ cs) before later =
      CallFound b c (take (room_of c) before) (take (room_of c) later)
      × AllFound (after k row_table record_table b c) cs (drop (room_of c) before) (drop (room_of c) later)

-- After a list of calls on a new index over two tables: the tables before and after, the answers, and the searches' buffer before and after.
-- b is the book after those calls, which is fed the tables' lengths and the calls' arguments alone.
pub record RunStands {V S : Type 0} (k : Column V S) (calls : List (Call V S)) (cells cells' : List (Row V)) (table table' : List (Filed V S)) (answers : List (Reply V S)) (buffer buffer' : List ℕ) (b : Book V S) : Type 0 where
  pub book : b ≡ after_all k (length cells) (length table) fresh calls
  -- the row table has the book's rows, and its other cells are as they were; so are the records that are not in use
  pub rows : cells' ≡ b.rows ++ drop (length b.rows) cells
  pub unused : drop (length b.spans) table' ≡ drop (length b.spans) table
  -- every call was answered as the book answers it
  pub answered : answers ≡ replies k (length cells) (length table) fresh calls
  -- every live zone's record holds the book's set of the zone,
  pub sets : SetsStand table' b
  -- and each of its claims is true of the rows along the zone's chain, if each statement combined was true of its zone's rows then
  pub truth : AllSaidTrue k (length cells) (length table) fresh calls → SetsTrue k b
  -- the record table's chains are exactly those of the live zones; each ends, no two share a record, and together they hold each closed row once
  pub chains : ChainsStand table' b
  -- the searches wrote the cells of the zones that were not skipped,
  pub written : buffer' ≡ all_wrote k (length cells) (length table) fresh calls buffer
  -- and if each statement combined was true, each found exactly the matching closed rows, by rising zone and then in chain order
  pub finds : AllSaidTrue k (length cells) (length table) fresh calls → AllFound k (length cells) (length table) fresh calls buffer buffer'

-- a run's whole result: equations for the tables, the answers and the buffer, and the law of the book
pub record Runs {V S : Type 0} (k : Column V S) (calls : List (Call V S)) (cells cells' : List (Row V)) (table table' : List (Filed V S)) (answers : List (Reply V S)) (buffer buffer' : List ℕ) : Type 0 where
  pub cells_are : cells' ≡ (state_all k (opened cells table) calls).cells
  pub table_is : table' ≡ (state_all k (opened cells table) calls).table
  pub stands : RunStands k calls cells cells' table table' answers buffer buffer' (after_all k (length cells) (length table) fresh calls)
