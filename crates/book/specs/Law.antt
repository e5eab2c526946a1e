-- What stands of a book and of the tables that keep it, in words: chains, sets, truth and what a search finds.
use Rattle.std.specs.Prelude.{◌≡◌, ℕ, ◌+◌, ◌<◌, Bool, true, false, cond, not, ◌&&◌, List, [], ◌∷◌, ◌++◌, map, length, take, drop, Some, None, filter, Option, nat_lt}
use Rattle.std.specs.List.{flat_map}
use Rattle.rules.specs.Column.{Column}
use Rattle.rules.specs.Rows.{Row, In, Every}
use Rattle.rules.specs.Truth.{AllHold}
use Rattle.rules.specs.Sets.{Entries, Proper}
use Rattle.rules.specs.Combining.{taken}
use Rattle.book.specs.Book.{Span, Zone, Book, Call, append, close, merge, combine, clear, retain_only, get, seek, zone_of, from_to, row_at, cells_along, rows_of, after}
use Rattle.book.specs.Chains.{Filed, record_at, next_of, Begins, ChainFrom, occurs}

-- the spans of a record table
abbrev pub span_in : {V S : Type 0} → Filed V S → Span
span_in r = record { first = r.first; count = r.rows }

abbrev pub spans_in : {V S : Type 0} → List (Filed V S) → List Span
spans_in = map span_in

-- the cells and the records of the zones' chains, zone after zone
abbrev pub zone_cells : {V S : Type 0} → List Span → Zone V S → List ℕ
zone_cells spans z = cells_along spans z.chain

abbrev pub all_cells : {V S : Type 0} → Book V S → List ℕ
all_cells b = flat_map (zone_cells b.spans) b.zones

abbrev pub chain_of : {V S : Type 0} → Zone V S → List ℕ
chain_of z = z.chain

abbrev pub all_records : {V S : Type 0} → Book V S → List ℕ
all_records b = flat_map chain_of b.zones

module _ {V S : Type 0} (k : Column V S) (row_table record_table : ℕ) where
  -- each statement combined into a zone was true of the zone's rows then
  abbrev pub SaidTrue : Book V S → Call V S → Type 0
  SaidTrue b (append row) = Unit {0}
  SaidTrue b close = Unit {0}
  SaidTrue b (merge in_order a c) = Unit {0}
  SaidTrue b (combine n told) = (z : Zone V S) → zone_of b.zones n ≡ Some z → AllHold k (rows_of b z) (taken k told z.set)
  SaidTrue b (clear n s) = Unit {0}
  SaidTrue b (retain_only n keep) = Unit {0}
  SaidTrue b (get n s) = Unit {0}
  SaidTrue b (seek hits skips room) = Unit {0}

  -- of each call of a list, on the book after those before it
  abbrev pub AllSaidTrue : Book V S → List (Call V S) → Type 0
  AllSaidTrue b [] = Unit {0}
  AllSaidTrue b (c ∷ cs) = SaidTrue b c × AllSaidTrue (after k row_table record_table b c) cs

-- the zones met on going through the numbers from 1 on to n
abbrev pub one_or_none : {V S : Type 0} → Option (Zone V S) → List (Zone V S)
one_or_none (Some z) = z ∷ []
one_or_none None = []

abbrev pub zones_to : {V S : Type 0} → List (Zone V S) → ℕ → List (Zone V S)
zones_to zs n = flat_map (λ m. one_or_none (zone_of zs m)) (from_to 1 n)

-- the zone's chain stands in the record table, by what it gives as each record's next
abbrev pub Linked : {V S : Type 0} → (ℕ → ℕ) → Zone V S → Type 0
Linked next z = ChainFrom next z.number z.chain

-- the record table's chains are exactly those of the live zones: each ends, no two share a record, and together they hold each closed row once
pub record ChainsStand {V S : Type 0} (table : List (Filed V S)) (b : Book V S) : Type 0 where
  -- the records in use have the book's spans
  pub spans : spans_in (take (length b.spans) table) ≡ b.spans
  -- a record that begins a chain of the table is a live zone's,
  pub begun : (n : ℕ) → Begins (next_of table) (length b.spans) n → (z : Zone V S) × (zone_of b.zones n ≡ Some z)
  -- the chain that the table has from there is the zone's, and there is one,
  pub whole : (z : Zone V S) (ns : List ℕ) → In z b.zones → ChainFrom (next_of table) z.number ns → ns ≡ z.chain
  pub live : (z : Zone V S) → In z b.zones → Begins (next_of table) (length b.spans) z.number × Linked (next_of table) z
  -- two zones that share a record are one,
  pub apart : (x y : Zone V S) (n : ℕ) → In x b.zones → In y b.zones → In n x.chain → In n y.chain → x.number ≡ y.number
  -- and each closed row, and no other, lies along the chains once
  pub once : (c : ℕ) → c < b.closed → occurs c (all_cells b) ≡ 1
  pub only : (c : ℕ) → In c (all_cells b) → c < b.closed

-- every live zone's record holds the book's set
abbrev pub SetsStand : {V S : Type 0} → List (Filed V S) → Book V S → Type 0
SetsStand table b = Every (λ z. (record_at table z.number).set ≡ z.set) b.zones

-- each zone's set is one that `set` can make,
abbrev pub SetsProper : {V S : Type 0} → Bool → Book V S → Type 0
SetsProper has_sums b = Every (λ z. Proper has_sums z.set) b.zones

-- and every claim in it is true of the zone's rows, in chain order
abbrev pub ZoneTrue : {V S : Type 0} → Column V S → Book V S → Zone V S → Type 0
ZoneTrue k b z = AllHold k (rows_of b z) z.set

abbrev pub SetsTrue : {V S : Type 0} → Column V S → Book V S → Type 0
SetsTrue k b = Every (ZoneTrue k b) b.zones

-- the cells of the matching rows of a zone, in chain order, and of some zones, zone after zone
module _ {V S : Type 0} (hits : Row V → Bool) (b : Book V S) where
  abbrev pub matching : Zone V S → List ℕ
  matching z = filter (λ c. hits (row_at b.rows c)) (zone_cells b.spans z)

  abbrev pub all_matching : List (Zone V S) → List ℕ
  all_matching = flat_map matching

-- a question's promise: of any rows of which a set's claims are true, none matches where it says skip
abbrev pub Honest : {V S : Type 0} → Column V S → (Row V → Bool) → (Entries V S → Bool) → Type 0
Honest {V} {S} k hits skips = (es : Entries V S) (rows : List (Row V)) → Proper k.sums.has_sums es → skips es ≡ true → AllHold k rows es → Every (λ r. hits r ≡ false) rows

-- what is combined is told by a provider: claims that `set` takes, of each statistic at most one. What is searched for is a question with its promise
abbrev pub Provided : {V S : Type 0} → Column V S → Call V S → Type 0
Provided k (append row) = Unit {0}
Provided k close = Unit {0}
Provided k (merge in_order a c) = Unit {0}
Provided k (combine n told) = Proper k.sums.has_sums told
Provided k (clear n s) = Unit {0}
Provided k (retain_only n keep) = Unit {0}
Provided k (get n s) = Unit {0}
Provided k (seek hits skips room) = Honest k hits skips

-- the zones that the question does not say skip of, and how many it does
abbrev pub to_search : {V S : Type 0} → (Entries V S → Bool) → List (Zone V S) → List (Zone V S)
to_search skips = filter (λ z. not (skips z.set))

abbrev pub skipped : {V S : Type 0} → (Entries V S → Bool) → List (Zone V S) → ℕ
skipped skips [] = 0
skipped skips (z ∷ zs) = cond (skips z.set) 1 0 + skipped skips zs

-- some cells written from a buffer's start; the rest stays
abbrev pub written_into : List ℕ → List ℕ → List ℕ
written_into before cells = cells ++ drop (length cells) before

-- a cell that is closed and whose row matches
abbrev pub closed_match : {V S : Type 0} → (Row V → Bool) → Book V S → ℕ → Bool
closed_match hits b c = nat_lt c b.closed && hits (row_at b.rows c)

-- among those cells stands each closed one whose row matches once, and no other
abbrev pub MatchesOnce : {V S : Type 0} → (Row V → Bool) → Book V S → Type 0
MatchesOnce hits b = (c : ℕ) → occurs c (all_matching hits b b.zones) ≡ cond (closed_match hits b c) 1 0

-- a search that was not declined: its buffer before and after, and the two numbers that it returned. It wrote the cells of all matching closed rows,
-- by rising zone number and then in chain order, and passed over as many zones as the question says skip of
pub record Found {V S : Type 0} (hits : Row V → Bool) (skips : Entries V S → Bool) (b : Book V S) (before later : List ℕ) (matches passed : ℕ) : Type 0 where
  pub written : later ≡ written_into before (all_matching hits b b.zones)
  pub counted : matches ≡ length (all_matching hits b b.zones)
  pub passed_over : passed ≡ skipped skips b.zones
  -- which are those of all closed rows that match, each once, and no others
  pub exactly : MatchesOnce hits b
