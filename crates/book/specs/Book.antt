-- The book of an index: what it should hold, fed only table lengths and call arguments.
use Rattle.std.specs.Prelude.{ℕ, zero, suc, ◌+◌, ◌-◌, min, Bool, cond, ◌&&◌, List, [], ◌∷◌, ◌++◌, map, length, drop, Some, None, Option, ◌==◌, nat_lt, slice_index_or}
use Rattle.std.specs.List.{flat_map}
use Rattle.stat.specs.declared.Stat.{Stat}
use Rattle.statement.specs.declared.Statement.{Statement}
use Rattle.rules.specs.Column.{Column}
use Rattle.rules.specs.Rows.{Row}
use Rattle.rules.specs.Sets.{Entries, without, retained}
use Rattle.rules.specs.Merging.{merged}
use Rattle.rules.specs.Combining.{combined}
use Rattle.rules.specs.Counting.{counted}

-- a record's rows: its first cell and how many
pub record Span : Type 0 where
  pub first : ℕ
  pub count : ℕ

-- a live zone: its number, the numbers of the records along its chain, and the entries of its set
pub record Zone (V S : Type 0) : Type 0 where
  pub number : ℕ
  pub chain : List ℕ
  pub set : Entries V S

-- the rows appended, how many of them are closed, the records' spans by number from 1, and the live zones by rising number
pub record Book (V S : Type 0) : Type 0 where
  pub rows : List (Row V)
  pub closed : ℕ
  pub spans : List Span
  pub zones : List (Zone V S)

-- a call, by its arguments: a provider by what it tells, a question by its two answers, a buffer by its length
pub data Call (V S : Type 0) : Type 0 where
  append : Row V → Call V S
  close : Call V S
  -- whether in order, zone a, and the zone that is merged into it
  merge : Bool → ℕ → ℕ → Call V S
  combine : ℕ → List (Statement V S) → Call V S
  clear : ℕ → Stat → Call V S
  retain_only : ℕ → (Stat → Bool) → Call V S
  get : ℕ → Stat → Call V S
  -- which rows match, whether to skip a zone by its claims, and how long the buffer is
  seek : (Row V → Bool) → (Entries V S → Bool) → ℕ → Call V S

abbrev pub fresh : {V S : Type 0} → Book V S
fresh = record { rows = []; closed = 0; spans = []; zones = [] }

module _ {V S : Type 0} where
  abbrev pub zone_of : List (Zone V S) → ℕ → Option (Zone V S)
  zone_of [] n = None
  zone_of (z ∷ zs) n = cond (n == z.number) (Some z) (zone_of zs n)

  abbrev pub with_zone : (Zone V S → Zone V S) → ℕ → List (Zone V S) → List (Zone V S)
  with_zone f n [] = []
  with_zone f n (z ∷ zs) = cond (n == z.number) (f z) z ∷ with_zone f n zs

  abbrev pub without_zone : ℕ → List (Zone V S) → List (Zone V S)
  without_zone n [] = []
  without_zone n (z ∷ zs) = cond (n == z.number) (without_zone n zs) (z ∷ without_zone n zs)

  abbrev pub set_changed : (Entries V S → Entries V S) → Zone V S → Zone V S
  set_changed f z = record { number = z.number; chain = z.chain; set = f z.set }

  abbrev pub zones_changed : Book V S → List (Zone V S) → Book V S
  zones_changed b zs = record { rows = b.rows; closed = b.closed; spans = b.spans; zones = zs }

-- so many numbers, from a on
abbrev pub from_to : ℕ → ℕ → List ℕ
from_to a zero = []
from_to a (suc n) = a ∷ from_to (a + 1) n

-- the span of record n, numbered from 1
abbrev pub span_at : List Span → ℕ → Span
span_at spans n = slice_index_or spans (n - 1) (record { first = 0; count = 0 })

abbrev pub cells_in : Span → List ℕ
cells_in s = from_to s.first s.count

-- the cells of a record, and along a list of records
abbrev pub cells_of : List Span → ℕ → List ℕ
cells_of spans n = cells_in (span_at spans n)

abbrev pub cells_along : List Span → List ℕ → List ℕ
cells_along spans = flat_map (cells_of spans)

abbrev pub row_at : {V : Type 0} → List (Row V) → ℕ → Row V
row_at rows c = slice_index_or rows c None

abbrev pub at_cells : {V : Type 0} → List (Row V) → List ℕ → List (Row V)
at_cells rows = map (row_at rows)

-- the rows of a zone, in chain order: record after record, each by rising cell
abbrev pub rows_of : {V S : Type 0} → Book V S → Zone V S → List (Row V)
rows_of b z = at_cells b.rows (cells_along b.spans z.chain)

-- one more row
abbrev pub row_added : {V S : Type 0} → Row V → Book V S → Book V S
row_added row b = record { rows = b.rows ++ (row ∷ []); closed = b.closed; spans = b.spans; zones = b.zones }

-- the rows not yet closed as a record, and a live zone of it
abbrev pub open_span : {V S : Type 0} → Book V S → Span
open_span b = record { first = b.closed; count = length b.rows - b.closed }

module _ {V S : Type 0} (k : Column V S) where
  abbrev pub open_zone : Book V S → Zone V S
  open_zone b = let n = length b.spans + 1 in record { number = n; chain = n ∷ []; set = counted k (drop b.closed b.rows) }

  abbrev pub record_added : Book V S → Book V S
  record_added b = record { rows = b.rows; closed = length b.rows; spans = b.spans ++ (open_span b ∷ []); zones = b.zones ++ (open_zone b ∷ []) }

  -- zone y put behind zone x
  abbrev pub joined_zone : Bool → Zone V S → Zone V S → Zone V S
  joined_zone in_order y x = record { number = x.number; chain = x.chain ++ y.chain; set = merged k in_order x.set y.set }

  -- zone y put behind zone a, and live no more
  abbrev pub zones_joined : Bool → ℕ → Zone V S → Book V S → Book V S
  zones_joined in_order a y b = zones_changed b (with_zone (joined_zone in_order y) a (without_zone y.number b.zones))

-- how many cells and records of tables so long can be used
abbrev pub usable_cells : ℕ → ℕ
usable_cells row_table = min row_table 65535

abbrev pub usable_records : ℕ → ℕ
usable_records record_table = min record_table 1024

-- the book after a call, by the lengths of the two tables; a call that is declined leaves it
module _ {V S : Type 0} (k : Column V S) (row_table record_table : ℕ) where
  abbrev pub appended : Row V → Book V S → Book V S
  appended row b = cond (nat_lt (length b.rows) (usable_cells row_table)) (row_added row b) b

  abbrev pub shut : Book V S → Book V S
  shut b =
      cond (nat_lt b.closed (length b.rows) && nat_lt (length b.spans) (usable_records record_table))
      (record_added k b)
      b

  -- of two live zones that are not the same
  abbrev pub joined_if : Bool → ℕ → ℕ → Option (Zone V S) → Option (Zone V S) → Book V S → Book V S
  joined_if in_order a c (Some x) (Some y) b = cond (a == c) b (zones_joined k in_order a y b)
  joined_if in_order a c (Some x) None b = b
  joined_if in_order a c None (Some y) b = b
  joined_if in_order a c None None b = b

  abbrev pub joined_by : Bool → ℕ → ℕ → Book V S → Book V S
  joined_by in_order a c b = joined_if in_order a c (zone_of b.zones a) (zone_of b.zones c) b

  -- a live zone's entries changed
  abbrev pub changed_by : (Entries V S → Entries V S) → ℕ → Book V S → Book V S
  changed_by f n b = zones_changed b (with_zone (set_changed f) n b.zones)

  abbrev pub after : Book V S → Call V S → Book V S
  after b (append row) = appended row b
  after b close = shut b
  after b (merge in_order a c) = joined_by in_order a c b
  after b (combine n told) = changed_by (combined k told) n b
  after b (clear n s) = changed_by (λ es. without es s) n b
  after b (retain_only n keep) = changed_by (retained keep) n b
  after b (get n s) = b
  after b (seek hits skips room) = b

  abbrev pub after_all : Book V S → List (Call V S) → Book V S
  after_all b [] = b
  after_all b (c ∷ cs) = after_all (after b c) cs
