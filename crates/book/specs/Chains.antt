-- The record table as the calls read and write it, and its chains, read from the table alone.
use Rattle.std.specs.Prelude.{◌≡◌, ℕ, zero, suc, ◌+◌, ◌-◌, ◌≤◌, cond, List, [], ◌∷◌, ◌==◌, ◌≢◌, slice_index_or}
use Rattle.rules.specs.Sets.{Entries}

-- a record: its first cell, counted from 0, how many rows it has, its next record, and the entries of its set
pub record Filed (V S : Type 0) : Type 0 where
  pub first : ℕ
  pub rows : ℕ
  pub next : ℕ
  pub set : Entries V S

module _ {V S : Type 0} where
  -- what is read past the table's end
  abbrev pub no_record : Filed V S
  no_record = record { first = 0; rows = 0; next = 0; set = [] }

  -- record n, numbered from 1, and its next record
  abbrev pub record_at : List (Filed V S) → ℕ → Filed V S
  record_at table n = slice_index_or table (n - 1) no_record

  abbrev pub next_of : List (Filed V S) → ℕ → ℕ
  next_of table n = (record_at table n).next

  -- the record with n as its next, and with another set
  abbrev pub linked_to : Filed V S → ℕ → Filed V S
  linked_to r n = record { first = r.first; rows = r.rows; next = n; set = r.set }

  abbrev pub with_set : Filed V S → Entries V S → Filed V S
  with_set r es = record { first = r.first; rows = r.rows; next = r.next; set = es }

-- one of the records in use
abbrev pub InUse : ℕ → ℕ → Type 0
InUse used n = (1 ≤ n) × (n ≤ used)

-- in use, and no other's next
pub record Begins (next : ℕ → ℕ) (used n : ℕ) : Type 0 where
  pub in_use : InUse used n
  pub first : (m : ℕ) → InUse used m → (m ≢ n) → next m ≢ n

-- the chain that begins at n: record after record by its next, and zero ends it
abbrev pub ChainFrom : (ℕ → ℕ) → ℕ → List ℕ → Type 0
ChainFrom next n [] = n ≡ 0
ChainFrom next n (m ∷ ms) = (n ≡ m) × (1 ≤ m) × ChainFrom next (next m) ms

-- how often x stands in the list
abbrev pub occurs : ℕ → List ℕ → ℕ
occurs x [] = 0
occurs x (y ∷ ys) = cond (x == y) 1 0 + occurs x ys

-- the records from n on, each by the next of the one before, so many at most
abbrev pub walked : (ℕ → ℕ) → ℕ → ℕ → List ℕ
walked next zero n = []
walked next (suc f) n = cond (n == 0) [] (n ∷ walked next f (next n))

-- the last of them
abbrev pub last_of : ℕ → List ℕ → ℕ
last_of n [] = n
last_of n (m ∷ ms) = last_of m ms
