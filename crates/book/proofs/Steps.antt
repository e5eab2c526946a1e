-- The steps of a book: what a step gives is either the book as it was, or the book changed, where the step is taken.
use Rattle.std.proofs.Common.{◌≡◌, ℕ, ◌<◌, ◌≤◌, Bool, ◌&&◌, eqb, ltb, length, Some, None, Option, refl, ap, ◌∙◌}
use Rattle.std.proofs.lemmas.Bool.{cond_both, cond-true, cond-false, ltb-true, lt-ltb, le-ltb, and_parts, and_from, and_left, and_right, eqb-false, eq-eqb, ne_eqb}
use Rattle.rules.specs.Column.{Column}
use Rattle.rules.specs.Rows.{Row}
use Rattle.book.specs.Book.{Zone, Book, append, close, zone_of, row_added, record_added, zones_joined, zones_changed, with_zone, set_changed, usable_cells, usable_records, appended, shut, joined_if, joined_by, after}
use Rattle.rules.specs.Sets.{Entries}
use Rattle.book.proofs.Zones.{found_number, with_zone_none}

module _ {V S : Type 0} (k : Column V S) (row_table record_table : ℕ) (P : Book V S → Type 0) (b : Book V S) (was : P b) where
  pub by_append : (row : Row V) → (length b.rows < usable_cells row_table → P (row_added row b)) → P (appended k row_table record_table row b)
  by_append row h = cond_both (ltb (length b.rows) (usable_cells row_table)) (row_added row b) b P (λ t. h (ltb-true (length b.rows) (usable_cells row_table) t)) (λ t. was)

  pub by_close : (b.closed < length b.rows → length b.spans < usable_records record_table → P (record_added k b)) → P (shut k row_table record_table b)
  by_close h =
      let open? = ltb b.closed (length b.rows) in
      let room? = ltb (length b.spans) (usable_records record_table) in
      cond_both (open? && room?) (record_added k b) b P (λ t. let (o, r) = and_parts open? room? t in h (ltb-true b.closed (length b.rows) o) (ltb-true (length b.spans) (usable_records record_table) r)) (λ t. was)

  pub by_merge : (in_order : Bool) (a c : ℕ) → ((x y : Zone V S) → zone_of b.zones a ≡ Some x → zone_of b.zones y.number ≡ Some y → (a ≡ y.number → ⊥) → P (zones_joined k in_order a y b)) → P (joined_by k row_table record_table in_order a c b)
  by_merge in_order a c h = go (zone_of b.zones a) (zone_of b.zones c) refl refl
    where
      go : (p q : Option (Zone V S)) → zone_of b.zones a ≡ p → zone_of b.zones c ≡ q → P (joined_if k row_table record_table in_order a c p q b)
      go (Some x) (Some y) e f =
          let n : y.number ≡ c = found_number c y b.zones f in
          cond_both (eqb a c) b (zones_joined k in_order a y b) P (λ t. was) (λ t. h x y e (ap (zone_of b.zones) n ∙ f) (λ s. eqb-false a c t (s ∙ n)))
      go (Some x) None e f = was
      go None (Some y) e f = was
      go None None e f = was

-- The same as equations: what a step gives where it is taken, and where it is refused.
module _ {V S : Type 0} (k : Column V S) (row_table record_table : ℕ) (b : Book V S) where
  pub append_taken : (row : Row V) → length b.rows < usable_cells row_table → after k row_table record_table b (append row) ≡ row_added row b
  append_taken row h = cond-true (ltb (length b.rows) (usable_cells row_table)) (row_added row b) b (lt-ltb (length b.rows) (usable_cells row_table) h)

  pub append_refused : (row : Row V) → usable_cells row_table ≤ length b.rows → after k row_table record_table b (append row) ≡ b
  append_refused row h = cond-false (ltb (length b.rows) (usable_cells row_table)) (row_added row b) b (le-ltb (length b.rows) (usable_cells row_table) h)

  abbrev rows_open? : Bool
  rows_open? = ltb b.closed (length b.rows)

  abbrev record_free? : Bool
  record_free? = ltb (length b.spans) (usable_records record_table)

  pub close_taken : b.closed < length b.rows → length b.spans < usable_records record_table → after k row_table record_table b close ≡ record_added k b
  close_taken o r = cond-true (rows_open? && record_free?) (record_added k b) b (and_from rows_open? record_free? (lt-ltb b.closed (length b.rows) o) (lt-ltb (length b.spans) (usable_records record_table) r))

  pub close_no_row : length b.rows ≤ b.closed → after k row_table record_table b close ≡ b
  close_no_row h = cond-false (rows_open? && record_free?) (record_added k b) b (and_left rows_open? record_free? (le-ltb b.closed (length b.rows) h))

  pub close_no_record : usable_records record_table ≤ length b.spans → after k row_table record_table b close ≡ b
  close_no_record h = cond-false (rows_open? && record_free?) (record_added k b) b (and_right rows_open? record_free? (le-ltb (length b.spans) (usable_records record_table) h))

  -- a merge, ordered or not
  module _ (in_order : Bool) (a c : ℕ) where
    abbrev merged_book : Book V S
    merged_book = joined_by k row_table record_table in_order a c b

    merge_at : (p q : Option (Zone V S)) → zone_of b.zones a ≡ p → zone_of b.zones c ≡ q → merged_book ≡ joined_if k row_table record_table in_order a c p q b
    merge_at p q e f = ap (λ o. joined_if k row_table record_table in_order a c o (zone_of b.zones c) b) e ∙ ap (λ o. joined_if k row_table record_table in_order a c p o b) f

    pub merge_taken : (x y : Zone V S) → zone_of b.zones a ≡ Some x → zone_of b.zones c ≡ Some y → (a ≡ c → ⊥) → merged_book ≡ zones_joined k in_order a y b
    merge_taken x y e f ne = merge_at (Some x) (Some y) e f ∙ cond-false (eqb a c) b (zones_joined k in_order a y b) (ne_eqb a c ne)

    pub merge_same : a ≡ c → merged_book ≡ b
    merge_same e = go (zone_of b.zones a) (zone_of b.zones c)
      where
        go : (p q : Option (Zone V S)) → joined_if k row_table record_table in_order a c p q b ≡ b
        go (Some x) (Some y) = cond-true (eqb a c) b (zones_joined k in_order a y b) (eq-eqb a c e)
        go (Some x) None = refl
        go None (Some y) = refl
        go None None = refl

    pub merge_no_first : zone_of b.zones a ≡ None → merged_book ≡ b
    merge_no_first e = ap (λ o. joined_if k row_table record_table in_order a c o (zone_of b.zones c) b) e ∙ go (zone_of b.zones c)
      where
        go : (q : Option (Zone V S)) → joined_if k row_table record_table in_order a c None q b ≡ b
        go (Some y) = refl
        go None = refl

    pub merge_no_second : zone_of b.zones c ≡ None → merged_book ≡ b
    merge_no_second e = ap (λ o. joined_if k row_table record_table in_order a c (zone_of b.zones a) o b) e ∙ go (zone_of b.zones a)
      where
        go : (p : Option (Zone V S)) → joined_if k row_table record_table in_order a c p None b ≡ b
        go (Some x) = refl
        go None = refl

  -- a change of the set of no live zone
  pub set_refused : (f : Entries V S → Entries V S) (n : ℕ) → zone_of b.zones n ≡ None → zones_changed b (with_zone (set_changed f) n b.zones) ≡ b
  set_refused f n e = ap (zones_changed b) (with_zone_none (set_changed f) n b.zones e)
