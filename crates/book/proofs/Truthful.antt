-- The sets of the zones stay true along a run.
use Rattle.std.proofs.Common.{◌≡◌, ℕ, zero, suc, ◌+◌, ◌-◌, ◌<◌, Bool, List, [], ◌∷◌, ◌++◌, length, get_or, drop, Some, None, sym, refl, ap, ◌∙◌, subst, arith}
use Rattle.std.proofs.lemmas.List.{map-append, drop_all, drop_more, get_or_append_left}
use Rattle.std.proofs.ByRecursion.{All-push, All-weaker}
use Rattle.rules.specs.Column.{Column, ColumnLaws}
use Rattle.rules.specs.Rows.{Row, Every}
use Rattle.rules.specs.Truth.{Holds, AllHold}
use Rattle.rules.specs.Sets.{Entries, Proper, without, retained}
use Rattle.rules.specs.Merging.{merged}
use Rattle.rules.specs.Combining.{combined}
use Rattle.rules.specs.Counting.{counted}
use Rattle.book.specs.Book.{Span, Zone, Book, Call, append, close, merge, combine, clear, retain_only, get, seek, zone_of, with_zone, without_zone, set_changed, zones_changed, from_to, cells_of, cells_along, row_at, at_cells, rows_of, row_added, open_span, open_zone, record_added, joined_zone, zones_joined, after, after_all}
use Rattle.book.specs.Law.{zone_cells, Provided, SaidTrue, AllSaidTrue, SetsProper, ZoneTrue, SetsTrue}
use Rattle.book.specs.Sound.{ChainUsed, Sound}
use Rattle.rules.proofs.Lists.{every_both}
use Rattle.book.proofs.Occurs.{joined_append}
use Rattle.rules.proofs.Sets.{every_without as every_cleared, every_retained}
use Rattle.rules.proofs.Counting.{counted_holds}
use Rattle.rules.proofs.Combining.{combined_holds}
use Rattle.rules.proofs.Merges.{merged_true}
use Rattle.book.proofs.Properly.{proper_after}
use Rattle.book.proofs.Zones.{every_with, every_without, found_every, each_found}
use Rattle.book.proofs.Steps.{by_append, by_close, by_merge}
use Rattle.book.proofs.Soundness.{chains_in_use, cells_closed, cells_along_last, cells_close, sound_after}

-- Rows by cells: of cells below the end, a row put last changes none; and the cells from a on hold what is left.
module _ {V : Type 0} where
  pub at_cells_push : (rows : List (Row V)) (row : Row V) (cells : List ℕ) → Every (λ c. c < length rows) cells → at_cells (rows ++ (row ∷ [])) cells ≡ at_cells rows cells
  at_cells_push rows row [] h = refl
  at_cells_push rows row (c ∷ cs) h = cc (get_or_append_left rows (row ∷ []) None c h.0, at_cells_push rows row cs h.1)

  pub at_cells_rest : (rows : List (Row V)) (a n : ℕ) → a + n ≡ length rows → at_cells rows (from_to a n) ≡ drop a rows
  at_cells_rest rows a zero e = sym (drop_all a rows (omega arith))
  at_cells_rest rows a (suc n) e = ap (λ rs. get_or rows a None ∷ rs) (at_cells_rest rows (a + 1) n (omega arith)) ∙ sym (drop_more rows a None (omega arith))

  pub at_cells_along : (rows : List (Row V)) (spans : List Span) (xs ys : List ℕ) → at_cells rows (cells_along spans (xs ++ ys)) ≡ at_cells rows (cells_along spans xs) ++ at_cells rows (cells_along spans ys)
  at_cells_along rows spans xs ys = ap (at_cells rows) (joined_append (cells_of spans) xs ys) ∙ map-append (row_at rows) (cells_along spans xs) (cells_along spans ys)

module _ {V S : Type 0} (k : Column V S) where
  -- the same rows, the same truth
  pub still_true : (rows rows' : List (Row V)) (es : Entries V S) → rows' ≡ rows → AllHold k rows es → AllHold k rows' es
  still_true rows rows' es e h = subst (λ rs. AllHold k rs es) (sym e) h

  pub true_append : (row : Row V) (b : Book V S) → Sound b → SetsTrue k b → SetsTrue k (row_added row b)
  true_append row b sound h =
      every_both (λ z. Every (λ c. c < b.closed) (zone_cells b.spans z)) (ZoneTrue k b) (ZoneTrue k (row_added row b)) b.zones step (cells_closed b sound) h
    where
      step : (z : Zone V S) → Every (λ c. c < b.closed) (zone_cells b.spans z) → ZoneTrue k b z → ZoneTrue k (row_added row b) z
      step z u t = still_true (rows_of b z) (rows_of (row_added row b) z) z.set (at_cells_push b.rows row (zone_cells b.spans z) (All-weaker (λ c. c < b.closed) (λ c. c < length b.rows) (λ c r. omega (arith, sound.within)) (zone_cells b.spans z) u)) t

  -- a new set of one zone, true of its rows
  pub true_set : (f : Entries V S → Entries V S) (n : ℕ) (b : Book V S) → Sound b → ((z : Zone V S) → zone_of b.zones n ≡ Some z → ZoneTrue k b z → AllHold k (rows_of b z) (f z.set)) → SetsTrue k b → SetsTrue k (zones_changed b (with_zone (set_changed f) n b.zones))
  true_set f n b sound ok h =
      let Found = λ (z : Zone V S). (0 < z.number) × (zone_of b.zones z.number ≡ Some z) in
      every_with (λ z. Found z × ZoneTrue k b z) (ZoneTrue k b) (set_changed f) n b.zones (λ z ne p. p.1) (λ z e p. ok z (ap (zone_of b.zones) e ∙ p.0.1) p.1) (every_both Found (ZoneTrue k b) (λ z. Found z × ZoneTrue k b z) b.zones (λ z p q. (p, q)) (each_found 0 b.zones sound.rising) h)

  module _ (laws : ColumnLaws k) where
    pub true_close : (b : Book V S) → Sound b → b.closed < length b.rows → SetsTrue k b → SetsTrue k (record_added k b)
    true_close b sound some h = All-push (ZoneTrue k (record_added k b)) b.zones (open_zone k b) old new
      where
        step : (z : Zone V S) → ChainUsed (length b.spans) z → ZoneTrue k b z → ZoneTrue k (record_added k b) z
        step z u t = still_true (rows_of b z) (rows_of (record_added k b) z) z.set (ap (at_cells b.rows) (cells_close k b sound some z u)) t

        old : Every (ZoneTrue k (record_added k b)) b.zones
        old = every_both (ChainUsed (length b.spans)) (ZoneTrue k b) (ZoneTrue k (record_added k b)) b.zones step (chains_in_use b sound) h

        is_rest : rows_of (record_added k b) (open_zone k b) ≡ drop b.closed b.rows
        is_rest = ap (at_cells b.rows) (cells_along_last b.spans (open_span b)) ∙ at_cells_rest b.rows b.closed (length b.rows - b.closed) (omega arith)

        new : AllHold k (rows_of (record_added k b) (open_zone k b)) (counted k (drop b.closed b.rows))
        new = still_true (drop b.closed b.rows) (rows_of (record_added k b) (open_zone k b)) (counted k (drop b.closed b.rows)) is_rest (counted_holds k laws (drop b.closed b.rows))

    pub true_merge : (in_order : Bool) (a : ℕ) (y : Zone V S) (b : Book V S) → zone_of b.zones y.number ≡ Some y → SetsProper k.sums.has_sums b → SetsTrue k b → SetsTrue k (zones_joined k in_order a y b)
    true_merge in_order a y b is proper h =
        every_with Good (ZoneTrue k b) (joined_zone k in_order y) a (without_zone y.number b.zones) (λ z ne g. g.1)
        (λ z e g. still_true (rows_of b z ++ rows_of b y) (rows_of b (joined_zone k in_order y z)) (merged k in_order z.set y.set) (at_cells_along b.rows b.spans z.chain y.chain) (both_true z g))
        (every_without Good y.number b.zones (every_both (λ z. Proper k.sums.has_sums z.set) (ZoneTrue k b) Good b.zones (λ z p t. (p, t)) proper h))
      where
        Good : Zone V S → Type 0
        Good z = Proper k.sums.has_sums z.set × ZoneTrue k b z

        both_true : (z : Zone V S) → Good z → AllHold k (rows_of b z ++ rows_of b y) (merged k in_order z.set y.set)
        both_true z g = merged_true k laws in_order (rows_of b z) (rows_of b y) z.set y.set g.0.settable g.1 (found_every (ZoneTrue k b) y.number y b.zones is h)

-- along every run on a new index
module _ {V S : Type 0} (k : Column V S) (laws : ColumnLaws k) (row_table record_table : ℕ) where
  pub true_after : (b : Book V S) (c : Call V S) → Sound b → SetsProper k.sums.has_sums b → SaidTrue k row_table record_table b c → SetsTrue k b → SetsTrue k (after k row_table record_table b c)
  true_after b (append row) sound proper said h = by_append k row_table record_table (SetsTrue k) b h row (λ l. true_append k row b sound h)
  true_after b close sound proper said h = by_close k row_table record_table (SetsTrue k) b h (λ o r. true_close k laws b sound o h)
  true_after b (merge in_order a c) sound proper said h = by_merge k row_table record_table (SetsTrue k) b h in_order a c (λ x y p q ne. true_merge k laws in_order a y b q proper h)
  true_after b (combine n told) sound proper said h = true_set k (combined k told) n b sound (λ z e t. combined_holds k (rows_of b z) told z.set t (said z e)) h
  true_after b (clear n s) sound proper said h = true_set k (λ es. without es s) n b sound (λ z e t. every_cleared (Holds k (rows_of b z)) z.set s t) h
  true_after b (retain_only n keep) sound proper said h = true_set k (retained keep) n b sound (λ z e t. every_retained (Holds k (rows_of b z)) keep z.set t) h
  true_after b (get n s) sound proper said h = h
  true_after b (seek hits skips room) sound proper said h = h

  pub true_after_all : (b : Book V S) (cs : List (Call V S)) → Sound b → SetsProper k.sums.has_sums b → Every (Provided k) cs → AllSaidTrue k row_table record_table b cs → SetsTrue k b → SetsTrue k (after_all k row_table record_table b cs)
  true_after_all b [] sound proper given said h = h
  true_after_all b (c ∷ cs) sound proper given said h =
      true_after_all (after k row_table record_table b c) cs (sound_after k row_table record_table b c sound) (proper_after k row_table record_table b c given.0 proper) given.1 said.1
      (true_after b c sound proper said.0 h)
