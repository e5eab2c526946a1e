-- A search of tables that keep a book finds what a search of the book finds.
use Rattle.std.proofs.Common.{◌≡◌, ℕ, ◌+◌, ◌-◌, ◌<◌, Bool, true, false, cond, not, ltb, List, [], ◌∷◌, ◌++◌, length, Some, None, sum_by, filter, Option, sym, refl, ap, ◌∙◌, arith}
use lib.ListN.{get_or-map}
use Rattle.std.specs.List.{flat_map}
use Rattle.std.proofs.lemmas.List.{append-nil}
use Rattle.std.proofs.lemmas.List.Elements.{filter-append}
use Rattle.std.proofs.ByRecursion.{All-weaker}
use Rattle.std.proofs.lemmas.List.Sums.{sum_by-cons}
use Rattle.std.proofs.lemmas.Bool.{cond-true, cond-false}
use Rattle.rules.specs.Column.{Column}
use Rattle.rules.specs.Rows.{Row, Every}
use Rattle.rules.specs.Claims.{some?}
use Rattle.rules.specs.Sets.{Entries}
use Rattle.book.specs.Book.{Zone, Book, seek, from_to, zone_of, cells_in, cells_of, cells_along, row_at}
use Rattle.book.specs.Chains.{no_record, InUse}
use Rattle.book.specs.Law.{span_in, spans_in, zone_cells, matching, all_matching, one_or_none, to_search, skipped}
use Rattle.book.specs.Replies.{found, declines, searched_cells, reply}
use Rattle.book.specs.State.{State, zone?, set_of, cells_from, hits_from, found_at, passed_at, all_found, all_passed, state_reply}
use Rattle.book.specs.Keeps.{Keeps}
use Rattle.book.proofs.Occurs.{joined_append, joined_same, every_from_to}
use Rattle.book.proofs.Zones.{found_every}
use Rattle.book.proofs.InOrder.{zones_to_all}
use Rattle.book.proofs.Soundness.{chains_in_use, cells_closed}
use Rattle.book.proofs.Searching.{skipped_append}
use Rattle.book.proofs.Tables.{kept_row, kept_span}
use Rattle.book.proofs.Keeping.{is_filled, is_used, zone_is, zone_set, zone_chain}

-- what keeps the same of each element keeps the same
pub kept_same : {X : Type 0} (p q : X → Bool) (xs : List X) → Every (λ x. p x ≡ q x) xs → filter p xs ≡ filter q xs
kept_same p q [] h = refl
kept_same p q (x ∷ xs) h = ap (λ t. cond t (x ∷ filter p xs) (filter p xs)) h.0 ∙ ap (λ l. cond (q x) (x ∷ l) l) (kept_same p q xs h.1)

-- a function that takes lists put together to lists put together, over lists joined
pub joined_through : {X Y A : Type 0} (H : List Y → List A) (G : X → List Y) → H [] ≡ [] → ((xs ys : List Y) → H (xs ++ ys) ≡ H xs ++ H ys) → (xs : List X) → flat_map (λ x. H (G x)) xs ≡ H (flat_map G xs)
joined_through H G none both [] = sym none
joined_through H G none both (x ∷ xs) = ap (λ l. H (G x) ++ l) (joined_through H G none both xs) ∙ sym (both (G x) (flat_map G xs))

pub summed_through : {X Y : Type 0} (H : List Y → ℕ) (f : X → ℕ) (G : X → List Y) → H [] ≡ 0 → ((xs ys : List Y) → H (xs ++ ys) ≡ H xs + H ys) → (xs : List X) → Every (λ x. f x ≡ H (G x)) xs → sum_by f xs ≡ H (flat_map G xs)
summed_through H f G none both [] h = sym none
summed_through H f G none both (x ∷ xs) h = let ih = summed_through H f G none both xs h.1 in omega (arith, sum_by-cons f x xs, h.0, both (G x) (flat_map G xs))

module _ {V S : Type 0} {s : State V S} {b : Book V S} (keeps : Keeps s b) where
  span_same : (n : ℕ) → InUse (length b.spans) n → cells_of (spans_in s.table) n ≡ cells_of b.spans n
  span_same n u = ap cells_in (get_or-map span_in s.table (n - 1) no_record ∙ sym (kept_span keeps.carries n (u.0, omega (arith, u.1, is_used keeps))))

  -- the cells along a zone's chain
  pub zone_cells_are : (n : ℕ) (z : Zone V S) → zone_of b.zones n ≡ Some z → cells_from s n ≡ zone_cells b.spans z
  zone_cells_are n z e =
      ap (cells_along (spans_in s.table)) (zone_chain keeps n z e)
      ∙ joined_same (cells_of (spans_in s.table)) (cells_of b.spans) z.chain (All-weaker (InUse (length b.spans)) (λ m. cells_of (spans_in s.table) m ≡ cells_of b.spans m) span_same z.chain (found_every (λ y. Every (InUse (length b.spans)) y.chain) n z b.zones e (chains_in_use b keeps.sound)))

  -- and its matching cells
  pub zone_hits_are : (hits : Row V → Bool) (n : ℕ) (z : Zone V S) → zone_of b.zones n ≡ Some z → hits_from hits s n ≡ matching hits b z
  zone_hits_are hits n z e =
      ap (filter (λ c. hits (row_at s.cells c))) (zone_cells_are n z e)
      ∙ kept_same (λ c. hits (row_at s.cells c)) (λ c. hits (row_at b.rows c)) (zone_cells b.spans z)
      (All-weaker (λ c. c < b.closed) (λ c. hits (row_at s.cells c) ≡ hits (row_at b.rows c)) (λ c l. ap hits (sym (kept_row keeps.carries c (omega (arith, keeps.sound.within, is_filled keeps))))) (zone_cells b.spans z) (found_every (λ y. Every (λ c. c < b.closed) (zone_cells b.spans y)) n z b.zones e (cells_closed b keeps.sound)))

  module _ (hits : Row V → Bool) (skips : Entries V S → Bool) where
    picked : List (Zone V S) → List ℕ
    picked zs = all_matching hits b (to_search skips zs)

    picked_one : (z : Zone V S) → cond (skips z.set) [] (matching hits b z) ≡ picked (z ∷ [])
    unfolding picked
    picked_one z = go (skips z.set)
      where
        go : (t : Bool) → cond t [] (matching hits b z) ≡ all_matching hits b (cond (not t) (z ∷ []) [])
        go true = refl
        go false = sym (append-nil (matching hits b z))

    picked_append : (xs ys : List (Zone V S)) → picked (xs ++ ys) ≡ picked xs ++ picked ys
    unfolding picked
    picked_append xs ys = ap (all_matching hits b) (filter-append (λ z. not (skips z.set)) xs ys) ∙ joined_append (matching hits b) (to_search skips xs) (to_search skips ys)

    found_of : (n : ℕ) → found_at hits skips s n ≡ picked (one_or_none (zone_of b.zones n))
    unfolding picked
    found_of n = go (zone_of b.zones n) refl
      where
        go : (o : Option (Zone V S)) → zone_of b.zones n ≡ o → found_at hits skips s n ≡ picked (one_or_none (zone_of b.zones n))
        go (Some z) e =
            cond-true (zone? s n) (cond (skips (set_of s n)) [] (hits_from hits s n)) [] (zone_is keeps n ∙ ap some? e)
            ∙ ap (λ es. cond (skips es) [] (hits_from hits s n)) (zone_set keeps n z e)
            ∙ ap (λ l. cond (skips z.set) [] l) (zone_hits_are hits n z e)
            ∙ picked_one z
            ∙ sym (ap (λ o. picked (one_or_none o)) e)
        go None e =
            cond-false (zone? s n) (cond (skips (set_of s n)) [] (hits_from hits s n)) [] (zone_is keeps n ∙ ap some? e)
            ∙ sym (ap (λ o. picked (one_or_none o)) e)

    pub found_are : all_found hits skips s ≡ searched_cells hits skips b
    unfolding picked
    found_are =
        ap (λ u. flat_map (found_at hits skips s) (from_to 1 u)) (is_used keeps)
        ∙ joined_same (found_at hits skips s) (λ n. picked (one_or_none (zone_of b.zones n))) (from_to 1 (length b.spans)) (every_from_to (λ n. found_at hits skips s n ≡ picked (one_or_none (zone_of b.zones n))) 1 (length b.spans) (λ n low high. found_of n))
        ∙ joined_through picked (λ n. one_or_none (zone_of b.zones n)) refl picked_append (from_to 1 (length b.spans))
        ∙ ap picked (zones_to_all b keeps.sound)

    passed_of : (n : ℕ) → passed_at hits skips s n ≡ skipped skips (one_or_none (zone_of b.zones n))
    passed_of n = go (zone_of b.zones n) refl
      where
        go : (o : Option (Zone V S)) → zone_of b.zones n ≡ o → passed_at hits skips s n ≡ skipped skips (one_or_none (zone_of b.zones n))
        go (Some z) e =
            cond-true (zone? s n) (cond (skips (set_of s n)) 1 0) 0 (zone_is keeps n ∙ ap some? e)
            ∙ ap (λ es. cond (skips es) 1 0) (zone_set keeps n z e)
            ∙ plus_none (cond (skips z.set) 1 0)
            ∙ sym (ap (λ o. skipped skips (one_or_none o)) e)
          where
            plus_none : (m : ℕ) → m ≡ m + 0
            plus_none m = omega arith
        go None e =
            cond-false (zone? s n) (cond (skips (set_of s n)) 1 0) 0 (zone_is keeps n ∙ ap some? e)
            ∙ sym (ap (λ o. skipped skips (one_or_none o)) e)

    pub passed_are : all_passed hits skips s ≡ skipped skips b.zones
    passed_are =
        ap (λ u. sum_by (passed_at hits skips s) (from_to 1 u)) (is_used keeps)
        ∙ summed_through (skipped skips) (passed_at hits skips s) (λ n. one_or_none (zone_of b.zones n)) refl (skipped_append skips) (from_to 1 (length b.spans)) (every_from_to (λ n. passed_at hits skips s n ≡ skipped skips (one_or_none (zone_of b.zones n))) 1 (length b.spans) (λ n low high. passed_of n))
        ∙ ap (skipped skips) (zones_to_all b keeps.sound)

    pub search_replied : (k : Column V S) (room : ℕ) → state_reply k s (seek hits skips room) ≡ reply k (length s.cells) (length s.table) b (seek hits skips room)
    search_replied k room =
        ap (λ n. cond (ltb room n) (declines 8 None) (found (length (all_found hits skips s)) (all_passed hits skips s))) keeps.carries.closes
        ∙ ap (λ l. cond (ltb room b.closed) (declines 8 None) (found (length l) (all_passed hits skips s))) found_are
        ∙ ap (λ n. cond (ltb room b.closed) (declines 8 None) (found (length (searched_cells hits skips b)) n)) passed_are
