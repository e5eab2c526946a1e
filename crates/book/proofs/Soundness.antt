-- Every book that calls can make is sound.
use Rattle.std.proofs.Common.{◌≡◌, ℕ, zero, suc, ◌+◌, ◌-◌, ◌<◌, ◌≤◌, Bool, List, [], ◌∷◌, ◌++◌, length, get_or, Some, sym, refl, ap, ◌∙◌, subst, zero-add, arith}
use Rattle.std.specs.List.{flat_map}
use Rattle.std.proofs.lemmas.List.{append-nil, length_push, get_or_push, get_or_append_left}
use Rattle.std.proofs.ByRecursion.{All-push, All-weaker}
use Rattle.rules.specs.Column.{Column}
use Rattle.rules.specs.Rows.{Row, In, Every}
use Rattle.rules.specs.Sets.{Entries, without, retained}
use Rattle.rules.specs.Combining.{combined}
use Rattle.book.specs.Book.{Span, Zone, Book, Call, append, close, merge, combine, clear, retain_only, get, seek, fresh, zone_of, with_zone, without_zone, set_changed, zones_changed, from_to, span_at, cells_in, cells_of, cells_along, row_added, open_span, open_zone, record_added, joined_zone, zones_joined, after, after_all}
use Rattle.book.specs.Chains.{InUse, occurs}
use Rattle.book.specs.Law.{zone_cells, all_cells, chain_of, all_records}
use Rattle.book.specs.Sound.{Headed, ChainUsed, Tiles, Sound, Fits}
use Rattle.rules.proofs.Lists.{every_both}
use Rattle.book.proofs.Occurs.{occurs_append, joined_append, joined_same, occurs_joined_push, from_to_append, occurs_from_to, from_to_bounds, occurs_in, parts_between}
use Rattle.book.proofs.Zones.{rise_with, rise_without, rise_push, every_with, every_without, occurs_moved, joined_with}
use Rattle.book.proofs.Steps.{by_append, by_close, by_merge}

-- what a sound book's chains and cells are below
module _ {V S : Type 0} (b : Book V S) (sound : Sound b) where
  pub chains_in_use : Every (ChainUsed (length b.spans)) b.zones
  chains_in_use = parts_between chain_of (InUse (length b.spans)) 1 (length b.spans) b.zones (λ n low high. (low, omega arith)) sound.records

  pub cells_closed : Every (λ z. Every (λ c. c < b.closed) (zone_cells b.spans z)) b.zones
  cells_closed = parts_between (zone_cells b.spans) (λ c. c < b.closed) 0 b.closed b.zones (λ c low high. omega arith) sound.cells

  head_in_use : (z : Zone V S) → Headed z → ChainUsed (length b.spans) z → InUse (length b.spans) z.number
  head_in_use z (rest, e) h = let g : Every (InUse (length b.spans)) (z.number ∷ rest) = subst (λ c. Every (InUse (length b.spans)) c) e h in g.0

  pub numbers_in_use : Every (λ z. InUse (length b.spans) z.number) b.zones
  numbers_in_use = every_both Headed (ChainUsed (length b.spans)) (λ z. InUse (length b.spans) z.number) b.zones head_in_use sound.headed chains_in_use

-- A later span changes no earlier record's cells.
pub span_at_before : (spans : List Span) (s : Span) (n : ℕ) → InUse (length spans) n → span_at (spans ++ (s ∷ [])) n ≡ span_at spans n
span_at_before spans s n u = get_or_append_left spans (s ∷ []) (record { first = 0; count = 0 }) (n - 1) (omega arith)

pub span_at_last : (spans : List Span) (s : Span) → span_at (spans ++ (s ∷ [])) (length spans + 1) ≡ s
span_at_last spans s = get_or_push spans s (record { first = 0; count = 0 }) ((length spans + 1) - 1) (omega arith)

pub cells_along_before : (spans : List Span) (s : Span) (chain : List ℕ) → Every (InUse (length spans)) chain → cells_along (spans ++ (s ∷ [])) chain ≡ cells_along spans chain
cells_along_before spans s chain h = joined_same (cells_of (spans ++ (s ∷ []))) (cells_of spans) chain (All-weaker (InUse (length spans)) (λ n. cells_of (spans ++ (s ∷ [])) n ≡ cells_of spans n) (λ n r. ap cells_in (span_at_before spans s n r)) chain h)

pub cells_along_last : (spans : List Span) (s : Span) → cells_along (spans ++ (s ∷ [])) ((length spans + 1) ∷ []) ≡ cells_in s
cells_along_last spans s = append-nil (cells_of (spans ++ (s ∷ [])) (length spans + 1)) ∙ ap cells_in (span_at_last spans s)

pub tiles_push : (from : ℕ) (spans : List Span) (to : ℕ) (s : Span) → Tiles from spans to → s.first ≡ to → 1 ≤ s.count → Tiles from (spans ++ (s ∷ [])) (to + s.count)
tiles_push from [] to s t f c = (f ∙ sym t, c, ap (λ n. n + s.count) t)
tiles_push from (r ∷ rs) to s t f c = (t.0, t.1, tiles_push (from + r.count) rs to s t.2 f c)

-- each record's rows lie between the ends, and there is one at least
span_at_later : (s : Span) (ss : List Span) (m : ℕ) → span_at (s ∷ ss) (suc (suc m)) ≡ span_at ss (suc m)
span_at_later s ss m =
    let d : Span = record { first = 0; count = 0 } in
    let e : suc (suc m) - 1 ≡ suc m = omega arith in
    let f : m ≡ suc m - 1 = omega arith in
    ap (λ i. get_or (s ∷ ss) i d) e ∙ ap (λ i. get_or ss i d) f

tiles_rise : (from : ℕ) (spans : List Span) (to : ℕ) → Tiles from spans to → from ≤ to
tiles_rise from [] to t = omega arith
tiles_rise from (s ∷ ss) to t = let r = tiles_rise (from + s.count) ss to t.2 in omega arith

pub tiles_within : (from : ℕ) (spans : List Span) (to n : ℕ) → Tiles from spans to → InUse (length spans) n → (from ≤ (span_at spans n).first) × (1 ≤ (span_at spans n).count) × ((span_at spans n).first + (span_at spans n).count ≤ to)
tiles_within from [] to n t u = absurd (omega arith)
tiles_within from (s ∷ ss) to zero t u = absurd (omega arith)
tiles_within from (s ∷ ss) to (suc zero) t u = (omega arith, t.1, omega (arith, t.0, tiles_rise (from + s.count) ss to t.2))
tiles_within from (s ∷ ss) to (suc (suc m)) t u = rw (span_at_later s ss m) (let r = tiles_within (from + s.count) ss to (suc m) t.2 (omega arith, omega arith) in (omega arith, r.1, r.2))

-- the numbers from 1 on and the next one; the numbers below m, and from m on to n
count_next : {X : Type 0} (n : ℕ) (xs : List X) (x : X) → occurs n (from_to 1 (length xs)) + occurs n ((length xs + 1) ∷ []) ≡ occurs n (from_to 1 (length (xs ++ (x ∷ []))))
count_next n xs x =
    let m = length xs in
    let e : occurs n (from_to 1 (m + 1)) ≡ occurs n (from_to 1 m) + occurs n ((1 + m) ∷ []) = ap (occurs n) (from_to_append 1 m 1) ∙ occurs_append n (from_to 1 m) (from_to (1 + m) 1) in
    let f : 1 + m ≡ m + 1 = omega arith in
    rw length_push (sym (e ∙ ap (λ u. occurs n (from_to 1 m) + occurs n (u ∷ [])) f))

count_on : (c m n : ℕ) → m ≤ n → occurs c (from_to 0 m) + occurs c (from_to m (n - m)) ≡ occurs c (from_to 0 n)
count_on c m n le =
    let f : m + (n - m) ≡ n = omega arith in
    sym (ap (λ u. occurs c (from_to 0 u)) (sym f) ∙ ap (occurs c) (from_to_append 0 m (n - m)) ∙ occurs_append c (from_to 0 m) (from_to (0 + m) (n - m)) ∙ ap (λ u. occurs c (from_to 0 m) + occurs c (from_to u (n - m))) (zero-add m))

module _ {V S : Type 0} where
  pub sound_fresh : Sound {V = V} {S = S} fresh
  sound_fresh = record { rising = tt; headed = tt; records = λ n. refl; cells = λ c. refl; tiled = refl; within = omega arith }

  pub sound_append : (row : Row V) (b : Book V S) → Sound b → Sound (row_added row b)
  sound_append row b h = record { rising = h.rising; headed = h.headed; records = h.records; cells = h.cells; tiled = h.tiled; within = omega (arith, length_push b.rows row, h.within) }

  -- a change of a zone's set alone
  pub sound_set : (f : Entries V S → Entries V S) (n : ℕ) (b : Book V S) → Sound b → Sound (zones_changed b (with_zone (set_changed f) n b.zones))
  sound_set f n b h =
      record {
        rising = rise_with (set_changed f) (λ z. refl) n 0 b.zones h.rising;
        headed = every_with Headed Headed (set_changed f) n b.zones (λ z ne p. p) (λ z e p. p) h.headed;
        records = λ m. ap (occurs m) (joined_with chain_of (set_changed f) n b.zones (λ z. refl)) ∙ h.records m;
        cells = λ c. ap (occurs c) (joined_with (zone_cells b.spans) (set_changed f) n b.zones (λ z. refl)) ∙ h.cells c;
        tiled = h.tiled;
        within = h.within;
      }

  -- one zone put behind another
  pub sound_merge : (k : Column V S) (in_order : Bool) (a : ℕ) (x y : Zone V S) (b : Book V S) → zone_of b.zones a ≡ Some x → zone_of b.zones y.number ≡ Some y → (a ≡ y.number → ⊥) → Sound b → Sound (zones_joined k in_order a y b)
  sound_merge k in_order a x y b p q ne h =
      let f = joined_zone k in_order y in
      let c = y.number in
      record {
        rising = rise_with f (λ z. refl) a 0 (without_zone c b.zones) (rise_without c 0 b.zones h.rising);
        headed = every_with Headed Headed f a (without_zone c b.zones) (λ z ne r. r) (λ z e r. (r.0 ++ y.chain, ap (λ l. l ++ y.chain) r.1)) (every_without Headed c b.zones h.headed);
        records = λ m. occurs_moved chain_of m f 0 a c x y b.zones h.rising p q ne (occurs_append m x.chain y.chain) ∙ h.records m;
        cells = λ m. occurs_moved (zone_cells b.spans) m f 0 a c x y b.zones h.rising p q ne (ap (occurs m) (joined_append (cells_of b.spans) x.chain y.chain) ∙ occurs_append m (zone_cells b.spans x) (zone_cells b.spans y)) ∙ h.cells m;
        tiled = h.tiled;
        within = h.within;
      }

  -- the open rows made a record and a zone
  module _ (k : Column V S) (b : Book V S) (h : Sound b) (some : b.closed < length b.rows) where
    pub cells_close : (z : Zone V S) → ChainUsed (length b.spans) z → zone_cells (record_added k b).spans z ≡ zone_cells b.spans z
    cells_close z r = cells_along_before b.spans (open_span b) z.chain r

    pub all_cells_close : flat_map (zone_cells (record_added k b).spans) b.zones ≡ all_cells b
    all_cells_close = joined_same (zone_cells (record_added k b).spans) (zone_cells b.spans) b.zones (All-weaker (ChainUsed (length b.spans)) (λ z. zone_cells (record_added k b).spans z ≡ zone_cells b.spans z) cells_close b.zones (chains_in_use b h))

    records_close : (n : ℕ) → occurs n (all_records (record_added k b)) ≡ occurs n (from_to 1 (length (record_added k b).spans))
    records_close n = occurs_joined_push chain_of n b.zones (open_zone k b) ∙ ap (λ u. u + occurs n ((length b.spans + 1) ∷ [])) (h.records n) ∙ count_next n b.spans (open_span b)

    cells_close_all : (c : ℕ) → occurs c (all_cells (record_added k b)) ≡ occurs c (from_to 0 (length b.rows))
    cells_close_all c =
        occurs_joined_push (zone_cells (record_added k b).spans) c b.zones (open_zone k b)
        ∙ ap (λ l. occurs c l + occurs c (zone_cells (record_added k b).spans (open_zone k b))) all_cells_close
        ∙ ap (λ l. occurs c (all_cells b) + occurs c l) (cells_along_last b.spans (open_span b))
        ∙ ap (λ u. u + occurs c (cells_in (open_span b))) (h.cells c)
        ∙ count_on c b.closed (length b.rows) (omega arith)

    pub sound_close : Sound (record_added k b)
    sound_close =
        record {
          rising = rise_push 0 b.zones (open_zone k b) (omega arith) (All-weaker (λ z. InUse (length b.spans) z.number) (λ z. z.number < length b.spans + 1) (λ z r. omega arith) b.zones (numbers_in_use b h)) h.rising;
          headed = All-push Headed b.zones (open_zone k b) h.headed ([], refl);
          records = records_close;
          cells = cells_close_all;
          tiled = subst (λ n. Tiles 0 (record_added k b).spans n) (omega arith) (tiles_push 0 b.spans b.closed (open_span b) h.tiled refl (omega arith));
          within = omega arith;
        }

module _ {V S : Type 0} (k : Column V S) (row_table record_table : ℕ) where
  pub sound_after : (b : Book V S) (c : Call V S) → Sound b → Sound (after k row_table record_table b c)
  sound_after b (append row) h = by_append k row_table record_table Sound b h row (λ l. sound_append row b h)
  sound_after b close h = by_close k row_table record_table Sound b h (λ o r. sound_close k b h o)
  sound_after b (merge in_order a c) h = by_merge k row_table record_table Sound b h in_order a c (λ x y p q ne. sound_merge k in_order a x y b p q ne h)
  sound_after b (combine n told) h = sound_set (combined k told) n b h
  sound_after b (clear n s) h = sound_set (λ es. without es s) n b h
  sound_after b (retain_only n keep) h = sound_set (retained keep) n b h
  sound_after b (get n s) h = h
  sound_after b (seek hits skips room) h = h

  pub sound_after_all : (b : Book V S) (cs : List (Call V S)) → Sound b → Sound (after_all k row_table record_table b cs)
  sound_after_all b [] h = h
  sound_after_all b (c ∷ cs) h = sound_after_all (after k row_table record_table b c) cs (sound_after b c h)

  pub sound_run : (cs : List (Call V S)) → Sound (after_all k row_table record_table fresh cs)
  sound_run cs = sound_after_all fresh cs sound_fresh

-- and the tables have room for it
module _ {V S : Type 0} (k : Column V S) (row_table record_table : ℕ) where
  pub fits_after : (b : Book V S) (c : Call V S) → Fits row_table record_table b → Fits row_table record_table (after k row_table record_table b c)
  fits_after b (append row) h = by_append k row_table record_table (Fits row_table record_table) b h row (λ l. record { rows = omega (arith, length_push b.rows row); records = h.records })
  fits_after b close h = by_close k row_table record_table (Fits row_table record_table) b h (λ o r. record { rows = h.rows; records = omega (arith, length_push b.spans (open_span b)) })
  fits_after b (merge in_order a c) h = by_merge k row_table record_table (Fits row_table record_table) b h in_order a c (λ x y p q ne. record { rows = h.rows; records = h.records })
  fits_after b (combine n told) h = record { rows = h.rows; records = h.records }
  fits_after b (clear n s) h = record { rows = h.rows; records = h.records }
  fits_after b (retain_only n keep) h = record { rows = h.rows; records = h.records }
  fits_after b (get n s) h = h
  fits_after b (seek hits skips room) h = h

  pub fits_after_all : (b : Book V S) (cs : List (Call V S)) → Fits row_table record_table b → Fits row_table record_table (after_all k row_table record_table b cs)
  fits_after_all b [] h = h
  fits_after_all b (c ∷ cs) h = fits_after_all (after k row_table record_table b c) cs (fits_after b c h)

  pub fits_run : (cs : List (Call V S)) → Fits row_table record_table (after_all k row_table record_table fresh cs)
  fits_run cs = fits_after_all fresh cs (record { rows = omega arith; records = omega arith })

-- Each record in use stands in the chains exactly once, and each closed cell lies along them exactly once; and no other.
module _ {V S : Type 0} (b : Book V S) (sound : Sound b) where
  pub record_once : (n : ℕ) → InUse (length b.spans) n → occurs n (all_records b) ≡ 1
  record_once n u = sound.records n ∙ occurs_from_to n 1 (length b.spans) u.0 (omega arith)

  pub record_only : (n : ℕ) → In n (all_records b) → InUse (length b.spans) n
  record_only n i = let o = occurs_in n (all_records b) i in let r = from_to_bounds n 1 (length b.spans) (omega (arith, sound.records n)) in (r.0, omega arith)

  pub cell_once : (c : ℕ) → c < b.closed → occurs c (all_cells b) ≡ 1
  cell_once c l = sound.cells c ∙ occurs_from_to c 0 b.closed (omega arith) (omega arith)

  pub cell_only : (c : ℕ) → In c (all_cells b) → c < b.closed
  cell_only c i = let o = occurs_in c (all_cells b) i in let r = from_to_bounds c 0 b.closed (omega (arith, sound.cells c)) in omega arith
