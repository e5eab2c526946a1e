-- A search that passes over the zones of which an honest question says skip misses nothing.
use Rattle.std.proofs.Common.{◌≡◌, ℕ, ◌+◌, ◌<◌, ◌≤◌, Bool, true, false, cond, not, ◌&&◌, ltb, ◌⊎◌, List, [], ◌∷◌, ◌++◌, length, filter, sym, refl, ap, ◌∙◌, inl, inr, arith}
use Rattle.std.specs.List.{flat_map}
use Rattle.std.proofs.lemmas.List.Elements.{filter-append}
use Rattle.std.proofs.lemmas.Bool.{cases_Bool, cases_lt, lt-ltb, le-ltb, cond-true, cond-false, cond_both, not_from_true, not_from_false, true≢false, false≢true}
use Rattle.std.proofs.lemmas.List.Sums.{length-filter, count_by-le-length}
use Rattle.rules.specs.Column.{Column}
use Rattle.rules.specs.Rows.{Row, Every}
use Rattle.rules.specs.Sets.{Entries, Proper}
use Rattle.book.specs.Book.{Zone, Book, zone_of, row_at, at_cells, rows_of}
use Rattle.book.specs.Chains.{occurs}
use Rattle.book.specs.Law.{zone_cells, all_cells, ZoneTrue, SetsTrue, SetsProper, Honest, matching, all_matching, one_or_none, zones_to, to_search, skipped, written_into, Found}
use Rattle.book.specs.Sound.{Sound}
use Rattle.book.specs.Replies.{searched_cells}
use Rattle.book.proofs.Occurs.{counts_other, joined_append, occurs_from_to_past}
use Rattle.book.proofs.InOrder.{zones_to_more}
use Rattle.book.proofs.Lengths.{length_all_cells}
use Rattle.book.proofs.Soundness.{cell_once}

-- a filter that keeps nothing, and how often it keeps a number
module _ (p : ℕ → Bool) where
  pub keeps_none : (xs : List ℕ) → Every (λ x. p x ≡ false) xs → filter p xs ≡ []
  keeps_none [] h = refl
  keeps_none (x ∷ xs) h = cond-false (p x) (x ∷ filter p xs) (filter p xs) h.0 ∙ keeps_none xs h.1

  kept_hit : (x : ℕ) → p x ≡ true → (xs : List ℕ) → occurs x (filter p xs) ≡ occurs x xs
  kept_hit x t [] = refl
  kept_hit x t (y ∷ ys) =
      let ih = kept_hit x t ys in
      elim (cases_Bool (p y)) [
        | inl u ↦ rw (cond-true (p y) (y ∷ filter p ys) (filter p ys) u) (omega arith)
        | inr f ↦
            let o = counts_other x y (λ e. true≢false (sym t ∙ ap p e ∙ f)) in
            rw (cond-false (p y) (y ∷ filter p ys) (filter p ys) f) (omega arith)
      ]

  kept_miss : (x : ℕ) → p x ≡ false → (xs : List ℕ) → occurs x (filter p xs) ≡ 0
  kept_miss x t [] = refl
  kept_miss x t (y ∷ ys) =
      let ih = kept_miss x t ys in
      elim (cases_Bool (p y)) [
        | inl u ↦
            let o = counts_other x y (λ e. false≢true (sym t ∙ ap p e ∙ u)) in
            rw (cond-true (p y) (y ∷ filter p ys) (filter p ys) u) (omega arith)
        | inr f ↦ rw (cond-false (p y) (y ∷ filter p ys) (filter p ys) f) ih
      ]

  pub occurs_kept : (x : ℕ) (xs : List ℕ) → occurs x (filter p xs) ≡ cond (p x) (occurs x xs) 0
  occurs_kept x xs =
      elim (cases_Bool (p x)) [
        | inl t ↦ kept_hit x t xs ∙ sym (cond-true (p x) (occurs x xs) 0 t)
        | inr f ↦ kept_miss x f xs ∙ sym (cond-false (p x) (occurs x xs) 0 f)
      ]

  pub length_kept : (xs : List ℕ) → length (filter p xs) ≤ length xs
  length_kept xs = omega (arith, length-filter p xs, count_by-le-length p xs)

every_at_cells : {V : Type 0} (P : Row V → Type 0) (rows : List (Row V)) (cells : List ℕ) → Every P (at_cells rows cells) → Every (λ c. P (row_at rows c)) cells
every_at_cells P rows [] h = tt
every_at_cells P rows (c ∷ cs) h = (h.0, every_at_cells P rows cs h.1)

module _ {V S : Type 0} (hits : Row V → Bool) (b : Book V S) where
  -- all matching cells are those of all cells, in their order, whose row matches
  pub all_matching_kept : (zs : List (Zone V S)) → all_matching hits b zs ≡ filter (λ c. hits (row_at b.rows c)) (flat_map (zone_cells b.spans) zs)
  all_matching_kept [] = refl
  all_matching_kept (z ∷ zs) = ap (λ l. matching hits b z ++ l) (all_matching_kept zs) ∙ sym (filter-append (λ c. hits (row_at b.rows c)) (zone_cells b.spans z) (flat_map (zone_cells b.spans) zs))

  -- each closed cell whose row matches is among them once, and no other
  pub matching_once : Sound b → (c : ℕ) → occurs c (all_matching hits b b.zones) ≡ cond (ltb c b.closed && hits (row_at b.rows c)) 1 0
  matching_once sound c = ap (occurs c) (all_matching_kept b.zones) ∙ occurs_kept (λ d. hits (row_at b.rows d)) c (all_cells b) ∙ closed_or_not (cases_lt c b.closed)
    where
      hit? : Bool
      hit? = hits (row_at b.rows c)

      closed_or_not : (c < b.closed) ⊎ (b.closed ≤ c) → cond (hits (row_at b.rows c)) (occurs c (all_cells b)) 0 ≡ cond (ltb c b.closed && hits (row_at b.rows c)) 1 0
      closed_or_not (inl l) = ap (λ n. cond hit? n 0) (cell_once b sound c l) ∙ sym (ap (λ t. cond (t && hit?) 1 0) (lt-ltb c b.closed l))
      closed_or_not (inr g) = ap (λ n. cond hit? n 0) (sound.cells c ∙ occurs_from_to_past c 0 b.closed (omega arith)) ∙ cond_both hit? 0 0 (λ n. n ≡ 0) (λ t. refl) (λ t. refl) ∙ sym (ap (λ t. cond (t && hit?) 1 0) (le-ltb c b.closed g))

  -- there are no more of them than closed rows
  pub matching_fit : Sound b → length (all_matching hits b b.zones) ≤ b.closed
  matching_fit sound =
      let e = ap length (all_matching_kept b.zones) in
      let m = length_kept (λ c. hits (row_at b.rows c)) (all_cells b) in
      let f = length_all_cells b sound in
      omega arith

  module _ (k : Column V S) (skips : Entries V S → Bool) (honest : Honest k hits skips) where
    -- a zone to skip has no matching cell
    pub skipped_none : (z : Zone V S) → Proper k.sums.has_sums z.set → ZoneTrue k b z → skips z.set ≡ true → matching hits b z ≡ []
    skipped_none z p t s = keeps_none (λ c. hits (row_at b.rows c)) (zone_cells b.spans z) (every_at_cells (λ r. hits r ≡ false) b.rows (zone_cells b.spans z) (honest z.set (rows_of b z) p s t))

    -- so passing over such zones leaves nothing out
    pub skipping : (zs : List (Zone V S)) → Every (λ z. Proper k.sums.has_sums z.set) zs → Every (ZoneTrue k b) zs → all_matching hits b (to_search skips zs) ≡ all_matching hits b zs
    skipping [] p h = refl
    skipping (z ∷ zs) p h =
        let skip? = skips z.set in
        let left = to_search skips zs in
        let ih = skipping zs p.1 h.1 in
        elim (cases_Bool skip?) [
          | inl s ↦ ap (all_matching hits b) (cond-false (not skip?) (z ∷ left) left (not_from_true skip? s)) ∙ ih ∙ sym (ap (λ l. l ++ all_matching hits b zs) (skipped_none z p.0 h.0 s))
          | inr s ↦ ap (all_matching hits b) (cond-true (not skip?) (z ∷ left) left (not_from_false skip? s)) ∙ ap (λ l. matching hits b z ++ l) ih
        ]

    -- and a search of the other zones alone has found what there is to be found
    pub found_by_skipping : Sound b → SetsProper k.sums.has_sums b → SetsTrue k b → (before : List ℕ) → Found hits skips b before (written_into before (searched_cells hits skips b)) (length (searched_cells hits skips b)) (skipped skips b.zones)
    found_by_skipping sound proper h before =
        let e = skipping b.zones proper h in
        record { written = ap (written_into before) e; counted = ap length e; passed_over = refl; exactly = matching_once sound }

-- the zones of one number more: what is written, and how many are passed over
pub all_matching_more : {V S : Type 0} (hits : Row V → Bool) (b : Book V S) (zs : List (Zone V S)) (n : ℕ) → all_matching hits b (zones_to zs (n + 1)) ≡ all_matching hits b (zones_to zs n) ++ all_matching hits b (one_or_none (zone_of zs (1 + n)))
all_matching_more hits b zs n = ap (all_matching hits b) (zones_to_more zs n) ∙ joined_append (matching hits b) (zones_to zs n) (one_or_none (zone_of zs (1 + n)))

pub skipped_append : {V S : Type 0} (skips : Entries V S → Bool) (xs ys : List (Zone V S)) → skipped skips (xs ++ ys) ≡ skipped skips xs + skipped skips ys
skipped_append skips [] ys = omega arith
skipped_append skips (x ∷ xs) ys = let ih = skipped_append skips xs ys in omega arith

pub skipped_more : {V S : Type 0} (skips : Entries V S → Bool) (zs : List (Zone V S)) (n : ℕ) → skipped skips (zones_to zs (n + 1)) ≡ skipped skips (zones_to zs n) + skipped skips (one_or_none (zone_of zs (1 + n)))
skipped_more skips zs n = ap (skipped skips) (zones_to_more zs n) ∙ skipped_append skips (zones_to zs n) (one_or_none (zone_of zs (1 + n)))
