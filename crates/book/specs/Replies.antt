-- What the book answers to each call: every answer with its number and its values.
use Rattle.std.specs.Prelude.{ℕ, ◌+◌, Bool, cond, List, [], ◌∷◌, ◌++◌, length, take, drop, Some, None, Ok, Err, Option, Result, ◌==◌, nat_lt}
use Rattle.stat.specs.declared.Stat.{Stat}
use Rattle.stat.specs.Stats.{stat_number}
use Rattle.refusal.specs.declared.Refusal.{Refusal}
use Rattle.refusal.specs.Refusals.{refusal_number, refusal_value}
use Rattle.rules.specs.Column.{Column}
use Rattle.rules.specs.Rows.{Row}
use Rattle.statement.specs.Kinds.{Claim}
use Rattle.rules.specs.Sets.{Entries, got}
use Rattle.rules.specs.Combining.{against}
use Rattle.book.specs.Book.{Zone, Book, Call, append, close, merge, combine, clear, retain_only, get, seek, zone_of, usable_cells, usable_records, after}
use Rattle.book.specs.Law.{all_matching, to_search, skipped, written_into}

pub data Reply (V S : Type 0) : Type 0 where
  -- the cell of the row appended
  cell : ℕ → Reply V S
  -- the number of the record made, and of its zone
  zone : ℕ → Reply V S
  -- how many records the chain held that the other was put behind
  steps : ℕ → Reply V S
  combine_done : Reply V S
  clear_done : Reply V S
  retain_done : Reply V S
  claim : Claim V S → Reply V S
  -- how many rows match, and of how many zones the question said skip
  found : ℕ → ℕ → Reply V S
  -- a refusal's number and value
  declines : ℕ → Option ℕ → Reply V S

-- what a call returned, as an answer
abbrev pub reply_of : {V S A : Type 0} → (A → Reply V S) → Result A Refusal → Reply V S
reply_of f (Ok x) = f x
reply_of f (Err r) = declines (refusal_number r) (refusal_value r)

module _ {V S : Type 0} where
  -- on a live zone; else 3 with the number
  abbrev pub on_zone : ℕ → Option (Zone V S) → (Zone V S → Reply V S) → Reply V S
  on_zone n (Some z) f = f z
  on_zone n None f = declines 3 (Some n)

  -- 2 with the statistic, where a claim contradicts
  abbrev pub unless_against : Option Stat → Reply V S
  unless_against (Some s) = declines 2 (Some (stat_number s))
  unless_against None = combine_done

  -- the cells that a search of the book writes: those of the matching rows of the zones that are not skipped
  abbrev pub searched_cells : (Row V → Bool) → (Entries V S → Bool) → Book V S → List ℕ
  searched_cells hits skips b = all_matching hits b (to_search skips b.zones)

module _ {V S : Type 0} (k : Column V S) (row_table record_table : ℕ) where
  abbrev pub reply : Book V S → Call V S → Reply V S
  -- 5: every usable cell is filled
  reply b (append row) = cond (nat_lt (length b.rows) (usable_cells row_table)) (cell (length b.rows)) (declines 5 None)
  -- 7: no row is open; then 6: every usable record is in use
  reply b close =
      cond (nat_lt b.closed (length b.rows))
      (cond (nat_lt (length b.spans) (usable_records record_table)) (zone (length b.spans + 1)) (declines 6 None))
      (declines 7 None)
  -- 3 of the first, then 3 of the second; 4: they are the same
  reply b (merge in_order a c) =
      on_zone a (zone_of b.zones a) (λ x. on_zone c (zone_of b.zones c) (λ y. cond (a == c) (declines 4 None) (steps (length x.chain))))
  reply b (combine n told) = on_zone n (zone_of b.zones n) (λ z. unless_against (against k told z.set))
  reply b (clear n s) = on_zone n (zone_of b.zones n) (λ z. clear_done)
  reply b (retain_only n keep) = on_zone n (zone_of b.zones n) (λ z. retain_done)
  reply b (get n s) = on_zone n (zone_of b.zones n) (λ z. claim (got z.set s))
  -- 8: the buffer is shorter than the closed rows
  reply b (seek hits skips room) =
      cond (nat_lt room b.closed) (declines 8 None) (found (length (searched_cells hits skips b)) (skipped skips b.zones))

  -- the answers to a list of calls
  abbrev pub replies : Book V S → List (Call V S) → List (Reply V S)
  replies b [] = []
  replies b (c ∷ cs) = reply b c ∷ replies (after k row_table record_table b c) cs

-- how much of the buffer a call takes: a search takes its own part
abbrev pub room_of : {V S : Type 0} → Call V S → ℕ
room_of (append row) = 0
room_of close = 0
room_of (merge in_order a c) = 0
room_of (combine n told) = 0
room_of (clear n s) = 0
room_of (retain_only n keep) = 0
room_of (get n s) = 0
room_of (seek hits skips room) = room

-- the part after the call
abbrev pub wrote : {V S : Type 0} → Book V S → Call V S → List ℕ → List ℕ
wrote b (append row) part = part
wrote b close part = part
wrote b (merge in_order a c) part = part
wrote b (combine n told) part = part
wrote b (clear n s) part = part
wrote b (retain_only n keep) part = part
wrote b (get n s) part = part
wrote b (seek hits skips room) part = cond (nat_lt room b.closed) part (written_into part (searched_cells hits skips b))

-- a buffer after a list of calls, each search in its own part, one behind the other
module _ {V S : Type 0} (k : Column V S) (row_table record_table : ℕ) where
  abbrev pub all_wrote : Book V S → List (Call V S) → List ℕ → List ℕ
  all_wrote b [] buffer = buffer
  all_wrote b (c ∷ cs) buffer = wrote b c (take (room_of c) buffer) ++ all_wrote (after k row_table record_table b c) cs (drop (room_of c) buffer)
