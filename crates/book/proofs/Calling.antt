-- What each call writes keeps the book that the call leaves, and what it answers is what the book answers.
use Rattle.std.proofs.Common.{◌≡◌, ℕ, ◌+◌, ◌-◌, ◌<◌, ◌≤◌, Bool, true, false, cond, not, ◌&&◌, eqb, ltb, ◌⊎◌, List, [], ◌∷◌, ◌++◌, length, get_or, take, drop, set, Some, None, Option, sym, refl, ap, ◌∙◌, subst, inl, inr, arith}
use Rattle.std.proofs.lemmas.List.{length-set, length_push, get_or-set_same, get_or-set_other, drop-take}
use Rattle.std.proofs.ByRecursion.{All-push, All-weaker}
use Rattle.std.proofs.lemmas.Bool.{cases_eq, cases_Bool, cond-true, cond-false, ltb-true, eqb-true, eqb-false, and_from, and_left, and_right, and_parts, not_from_true, not_from_false}
use Rattle.rules.specs.Column.{Column}
use Rattle.rules.specs.Rows.{Row, Every}
use Rattle.rules.specs.Claims.{some?}
use Rattle.rules.specs.Sets.{Entries}
use Rattle.rules.specs.Merging.{merged}
use Rattle.rules.specs.Counting.{counted}
use Rattle.rules.proofs.Lists.{every_both}
use Rattle.book.specs.Book.{Zone, Book, append, close, merge, usable_cells, usable_records, zone_of, without_zone, set_changed, row_added, open_span, open_zone, record_added, joined_zone, zones_joined, joined_by, changed_by, after}
use Rattle.book.specs.Chains.{Filed, record_at, linked_to, with_set, InUse, last_of}
use Rattle.book.specs.Sound.{Headed}
use Rattle.book.specs.Replies.{Reply, cell, zone, steps, declines, on_zone, reply}
use Rattle.book.specs.State.{State, flag_at, zone?, set_of, chain_at, open_rows, with_table, set_put, next_put, row_put, set_by, filed, record_put, link_put, state_after, if_zone, state_reply}
use Rattle.book.specs.Keeps.{Carries, Keeps}
use Rattle.book.proofs.Zones.{found_number, found_every, every_with, every_without}
use Rattle.book.proofs.Steps.{merge_taken, merge_same, merge_no_first, merge_no_second, set_refused}
use Rattle.book.proofs.Soundness.{numbers_in_use, sound_append, sound_set, sound_merge, sound_close}
use Rattle.book.proofs.Tables.{record_at_written, record_at_other, carries_append, carries_set, carries_close, carries_merge, last_in_use}
use Rattle.book.proofs.Walking.{split_last}
use Rattle.book.proofs.Keeping.{cond_pair, is_filled, is_used, zone_is, zone_there, zone_gone, zone_used, zone_set, zone_chain, set_put_other, set_put_same, carries_set_put}

-- a next written leaves every set
pub set_next_put : {V S : Type 0} (table : List (Filed V S)) (l m n : ℕ) → 1 ≤ l → l ≤ length table → 1 ≤ n → (record_at (next_put table l m) n).set ≡ (record_at table n).set
set_next_put table l m n low high low' =
    elim (cases_eq n l) [
      | inl e ↦ subst (λ i. (record_at (next_put table l m) i).set ≡ (record_at table i).set) (sym e) (ap (λ r. r.set) (record_at_written table l (linked_to (record_at table l) m) low high))
      | inr ne ↦ ap (λ r. r.set) (record_at_other table l n (linked_to (record_at table l) m) low low' ne)
    ]

-- what is known of each zone's record
record Placed {V S : Type 0} (s : State V S) (b : Book V S) (z : Zone V S) : Type 0 where
  held : (record_at s.table z.number).set ≡ z.set
  in_use : InUse (length b.spans) z.number

placed : {V S : Type 0} {s : State V S} {b : Book V S} → Keeps s b → Every (Placed s b) b.zones
placed {V} {S} {s} {b} keeps = every_both (λ z. (record_at s.table z.number).set ≡ z.set) (λ z. InUse (length b.spans) z.number) (Placed s b) b.zones (λ z h u. record { held = h; in_use = u }) keeps.sets (numbers_in_use b keeps.sound)

module _ {V S : Type 0} {s : State V S} {b : Book V S} (keeps : Keeps s b) where
  -- the last record of a live zone's chain is in use
  pub last_in_table : (a : ℕ) (x : Zone V S) → zone_of b.zones a ≡ Some x → InUse s.used (last_of a (chain_at s a))
  last_in_table a x p =
      let h = found_every Headed a x b.zones p keeps.sound.headed in
      let r = split_last a x.chain (omega (arith, ap length h.1)) in
      let ends : x.chain ≡ r.0 ++ (last_of a (chain_at s a) ∷ []) = r.1 ∙ ap (λ ch. r.0 ++ (last_of a ch ∷ [])) (sym (zone_chain keeps a x p)) in
      let u = last_in_use b keeps.sound a (last_of a (chain_at s a)) r.0 x p ends in
      (u.0, omega (arith, u.1, is_used keeps))

module _ {V S : Type 0} (k : Column V S) {s : State V S} {b : Book V S} (keeps : Keeps s b) where
  -- append
  keeps_row_put : (row : Row V) → s.filled < usable_cells (length s.cells) → Keeps (row_put s row) (row_added row b)
  keeps_row_put row l =
      let long = length-set s.cells s.filled row in
      let more = length_push b.rows row in
      let is = is_filled keeps in
      record {
        sound = sound_append row b keeps.sound;
        fits = record { rows = omega arith; records = keeps.fits.records };
        carries = carries_append keeps.carries row (omega arith);
        flags = keeps.flags;
        sets = keeps.sets;
      }

  pub append_kept : (row : Row V) → Keeps (state_after k s (append row)) (after k (length s.cells) (length s.table) b (append row))
  append_kept row =
      let u = usable_cells (length s.cells) in
      subst (λ t. Keeps (state_after k s (append row)) (cond t (row_added row b) b)) (ap (λ n. ltb n u) (is_filled keeps))
      (cond_pair (ltb s.filled u) (row_put s row) s (row_added row b) b Keeps (λ t. keeps_row_put row (ltb-true s.filled u t)) (λ t. keeps))

  pub append_replied : (row : Row V) → state_reply k s (append row) ≡ reply k (length s.cells) (length s.table) b (append row)
  append_replied row = ap (λ n. cond (ltb n (usable_cells (length s.cells))) (cell n) (declines 5 None)) (is_filled keeps)

  -- close
  open_is : s.closed ≤ s.filled → open_rows s ≡ drop b.closed b.rows
  open_is le =
      let e : s.closed + (s.filled - s.closed) ≡ s.filled = omega arith in
      sym (ap (λ n. drop s.closed (take n s.cells)) (sym e) ∙ drop-take s.closed (s.filled - s.closed) s.cells)
      ∙ ap (drop s.closed) keeps.carries.rows
      ∙ ap (λ n. drop n b.rows) keeps.carries.closes

  keeps_record_put : s.closed < s.filled → s.used < usable_records (length s.table) → Keeps (record_put k s) (record_added k b)
  keeps_record_put some l =
      let is = is_used keeps in
      let more = length_push b.spans (open_span b) in
      let long = length-set s.table s.used (filed k s) in
      record {
        sound = sound_close k b keeps.sound (omega (arith, is_filled keeps, keeps.carries.closes));
        fits = record { rows = keeps.fits.rows; records = omega arith };
        carries = carries_close keeps.carries k (flag_at (set s.live s.used true)) (counted k (open_rows s)) keeps.sound (omega arith) others up;
        flags = length-set s.live s.used true ∙ keeps.flags;
        sets = All-push (λ z. (record_at (set s.table s.used (filed k s)) z.number).set ≡ z.set) b.zones (open_zone k b) (All-weaker (Placed s b) (λ z. (record_at (set s.table s.used (filed k s)) z.number).set ≡ z.set) old b.zones (placed keeps)) new;
      }
    where
      others : (n : ℕ) → 1 ≤ n → n ≤ s.used → flag_at (set s.live s.used true) n ≡ flag_at s.live n
      others n low high = get_or-set_other s.live s.used (n - 1) true false (omega arith)

      back : (s.used + 1) - 1 ≡ s.used
      back = omega arith

      up : flag_at (set s.live s.used true) (s.used + 1) ≡ true
      up = ap (λ i. get_or (set s.live s.used true) i false) back ∙ get_or-set_same s.live s.used true false (omega (arith, keeps.flags))

      old : (z : Zone V S) → Placed s b z → (record_at (set s.table s.used (filed k s)) z.number).set ≡ z.set
      old z p =
          ap (λ r. r.set) (subst (λ i. record_at (set s.table i (filed k s)) z.number ≡ record_at s.table z.number) back (record_at_other s.table (s.used + 1) z.number (filed k s) (omega arith) p.in_use.0 (omega (arith, p.in_use.1, is_used keeps))))
          ∙ p.held

      new : (record_at (set s.table s.used (filed k s)) (length b.spans + 1)).set ≡ counted k (drop b.closed b.rows)
      new =
          let e : (length b.spans + 1) - 1 ≡ s.used = omega (arith, is_used keeps) in
          ap (λ r. r.set) (subst (λ i. record_at (set s.table i (filed k s)) (length b.spans + 1) ≡ filed k s) e (record_at_written s.table (length b.spans + 1) (filed k s) (omega arith) (omega (arith, is_used keeps))))
          ∙ ap (counted k) (open_is (omega arith))

  pub close_kept : Keeps (state_after k s close) (after k (length s.cells) (length s.table) b close)
  close_kept =
      let u = usable_records (length s.table) in
      let t = ltb s.closed s.filled && ltb s.used u in
      let same : t ≡ (ltb b.closed (length b.rows) && ltb (length b.spans) u) =
      ap (λ n. ltb n s.filled && ltb s.used u) keeps.carries.closes ∙ ap (λ n. ltb b.closed n && ltb s.used u) (is_filled keeps) ∙ ap (λ n. ltb b.closed (length b.rows) && ltb n u) (is_used keeps) in
      subst (λ t. Keeps (state_after k s close) (cond t (record_added k b) b)) same
      (cond_pair t (record_put k s) s (record_added k b) b Keeps
      (λ h. let p = and_parts (ltb s.closed s.filled) (ltb s.used u) h in keeps_record_put (ltb-true s.closed s.filled p.0) (ltb-true s.used u p.1))
      (λ h. keeps))

  pub close_replied : state_reply k s close ≡ reply k (length s.cells) (length s.table) b close
  close_replied =
      let u = usable_records (length s.table) in
      let shape : ℕ → ℕ → ℕ → Reply V S = λ c f n. cond (ltb c f) (cond (ltb n u) (zone (n + 1)) (declines 6 None)) (declines 7 None) in
      ap (λ c. shape c s.filled s.used) keeps.carries.closes ∙ ap (λ f. shape b.closed f s.used) (is_filled keeps) ∙ ap (λ n. shape b.closed (length b.rows) n) (is_used keeps)

  -- a change of a live zone's set
  keeps_changed : (f : Entries V S → Entries V S) (n : ℕ) (z : Zone V S) → zone_of b.zones n ≡ Some z → Keeps (with_table s (set_put s.table n (f (set_of s n)))) (changed_by k (length s.cells) (length s.table) f n b)
  keeps_changed f n z e =
      let es = f (set_of s n) in
      let long = length-set s.table (n - 1) (with_set (record_at s.table n) es) in
      let u = zone_used keeps n z e in
      let high : n ≤ length s.table = omega (arith, u.1, keeps.carries.places) in
      record {
        sound = sound_set f n b keeps.sound;
        fits = record { rows = keeps.fits.rows; records = omega (arith, keeps.fits.records) };
        carries = carries_set (carries_set_put s.table n es u.0 high keeps.sound u.1 keeps.carries) f n;
        flags = keeps.flags;
        sets =
            every_with (Placed s b) (λ y. (record_at (set_put s.table n es) y.number).set ≡ y.set) (set_changed f) n b.zones
            (λ y ne p. set_put_other s.table n es u.0 high y.number p.in_use.0 (λ q. ne (sym q)) ∙ p.held)
            (λ y q p. subst (λ m. (record_at (set_put s.table n es) m).set ≡ f y.set) q (set_put_same s.table n es u.0 high ∙ ap f (ap (λ m. set_of s m) q ∙ p.held)))
            (placed keeps);
      }

  pub set_by_kept : (f : Entries V S → Entries V S) (n : ℕ) → Keeps (set_by s n f) (changed_by k (length s.cells) (length s.table) f n b)
  set_by_kept f n =
      let put = with_table s (set_put s.table n (f (set_of s n))) in
      elim (cases_Bool (zone? s n)) [
        | inl t ↦ let z = zone_there keeps n t in subst (λ st. Keeps st (changed_by k (length s.cells) (length s.table) f n b)) (sym (cond-true (zone? s n) put s t)) (keeps_changed f n z.0 z.1)
        | inr t ↦ subst (λ st. Keeps st (changed_by k (length s.cells) (length s.table) f n b)) (sym (cond-false (zone? s n) put s t)) (subst (Keeps s) (sym (set_refused k (length s.cells) (length s.table) b f n (zone_gone keeps n t))) keeps)
      ]

  -- an answer on a live zone
  pub if_zone_is : (n : ℕ) (r : Reply V S) (f : Zone V S → Reply V S) → ((z : Zone V S) → zone_of b.zones n ≡ Some z → r ≡ f z) → if_zone k s n r ≡ on_zone n (zone_of b.zones n) f
  if_zone_is n r f same = go (zone_of b.zones n) refl
    where
      go : (o : Option (Zone V S)) → zone_of b.zones n ≡ o → if_zone k s n r ≡ on_zone n (zone_of b.zones n) f
      go (Some z) e = cond-true (zone? s n) r (declines 3 (Some n)) (zone_is keeps n ∙ ap some? e) ∙ same z e ∙ sym (ap (λ o. on_zone n o f) e)
      go None e = cond-false (zone? s n) r (declines 3 (Some n)) (zone_is keeps n ∙ ap some? e) ∙ sym (ap (λ o. on_zone n o f) e)

  -- merge
  keeps_link_put : (in_order : Bool) (a c : ℕ) (x y : Zone V S) → zone_of b.zones a ≡ Some x → zone_of b.zones c ≡ Some y → (a ≡ c → ⊥) → Keeps (link_put k in_order a c s) (zones_joined k in_order a y b)
  keeps_link_put in_order a c x y p q ne =
      record {
        sound = sound_merge k in_order a x y b p other apart keeps.sound;
        fits = record { rows = keeps.fits.rows; records = omega (arith, keeps.fits.records, long, long') };
        carries = carried;
        flags = length-set s.live (c - 1) false ∙ keeps.flags;
        sets =
            every_with (Placed s b) (λ z. (record_at written z.number).set ≡ z.set) (joined_zone k in_order y) a (without_zone y.number b.zones)
            (λ z d h. set_next_put table₁ l c z.number last_used.0 last_high h.in_use.0 ∙ set_put_other s.table a es first_used.0 first_high z.number h.in_use.0 (λ i. d (sym i)) ∙ h.held)
            (λ z i h. subst (λ m. (record_at written m).set ≡ merged k in_order z.set y.set) i (set_next_put table₁ l c a last_used.0 last_high first_used.0 ∙ set_put_same s.table a es first_used.0 first_high ∙ ap (λ t. merged k in_order t (set_of s c)) (ap (λ m. set_of s m) i ∙ h.held) ∙ ap (merged k in_order z.set) (zone_set keeps c y q)))
            (every_without (Placed s b) y.number b.zones (placed keeps));
      }
    where
      number : y.number ≡ c
      number = found_number c y b.zones q

      other : zone_of b.zones y.number ≡ Some y
      other = ap (zone_of b.zones) number ∙ q

      apart : a ≡ y.number → ⊥
      apart e = ne (e ∙ number)

      es : Entries V S
      es = merged k in_order (set_of s a) (set_of s c)

      l : ℕ
      l = last_of a (chain_at s a)

      table₁ : List (Filed V S)
      table₁ = set_put s.table a es

      written : List (Filed V S)
      written = next_put table₁ l c

      first_used : InUse s.used a
      first_used = zone_used keeps a x p

      second_used : InUse s.used c
      second_used = zone_used keeps c y q

      first_high : a ≤ length s.table
      first_high = omega (arith, first_used.1, keeps.carries.places)

      long : length table₁ ≡ length s.table
      long = length-set s.table (a - 1) (with_set (record_at s.table a) es)

      long' : length written ≡ length table₁
      long' = length-set table₁ (l - 1) (linked_to (record_at table₁ l) c)

      -- the chain begins with the zone's number, so it has a last record
      some_chain : 1 ≤ length x.chain
      some_chain = let h = found_every Headed a x b.zones p keeps.sound.headed in omega (arith, ap length h.1)

      front : List ℕ
      front = (split_last a x.chain some_chain).0

      ends : x.chain ≡ front ++ (l ∷ [])
      ends = (split_last a x.chain some_chain).1 ∙ ap (λ ch. front ++ (last_of a ch ∷ [])) (sym (zone_chain keeps a x p))

      last_used : InUse (length b.spans) l
      last_used = last_in_use b keeps.sound a l front x p ends

      last_high : l ≤ length table₁
      last_high = omega (arith, last_used.1, long, keeps.carries.places, is_used keeps)

      down : flag_at (set s.live (c - 1) false) y.number ≡ false
      down = ap (flag_at (set s.live (c - 1) false)) number ∙ get_or-set_same s.live (c - 1) false false (omega (arith, keeps.flags, second_used, keeps.fits.records, is_used keeps))

      others : (n : ℕ) → 1 ≤ n → (n ≡ y.number → ⊥) → flag_at (set s.live (c - 1) false) n ≡ flag_at s.live n
      others n low d = get_or-set_other s.live (c - 1) (n - 1) false false (omega (arith, second_used.0, number))

      carried : Carries s.cells s.filled s.closed s.used written (flag_at (set s.live (c - 1) false)) (zones_joined k in_order a y b)
      carried =
          subst (λ m. Carries s.cells s.filled s.closed s.used (next_put table₁ l m) (flag_at (set s.live (c - 1) false)) (zones_joined k in_order a y b)) number
          (carries_merge (carries_set_put s.table a es first_used.0 first_high keeps.sound first_used.1 keeps.carries) k in_order keeps.sound a l front x y p other apart ends (flag_at (set s.live (c - 1) false)) down others)

  pub merge_kept : (in_order : Bool) (a c : ℕ) → Keeps (state_after k s (merge in_order a c)) (after k (length s.cells) (length s.table) b (merge in_order a c))
  merge_kept in_order a c = first (cases_Bool (zone? s a))
    where
      rows : ℕ
      rows = length s.cells

      records : ℕ
      records = length s.table

      test : Bool
      test = zone? s a && (zone? s c && not (eqb a c))

      stays : test ≡ false → joined_by k (length s.cells) (length s.table) in_order a c b ≡ b → Keeps (cond test (link_put k in_order a c s) s) (joined_by k (length s.cells) (length s.table) in_order a c b)
      stays t e = subst (λ st. Keeps st (joined_by k (length s.cells) (length s.table) in_order a c b)) (sym (cond-false test (link_put k in_order a c s) s t)) (subst (Keeps s) (sym e) keeps)

      third : zone? s a ≡ true → zone? s c ≡ true → (eqb a c ≡ true) ⊎ (eqb a c ≡ false) → Keeps (cond test (link_put k in_order a c s) s) (joined_by k (length s.cells) (length s.table) in_order a c b)
      third t u (inl e) = stays (and_right (zone? s a) (zone? s c && not (eqb a c)) (and_right (zone? s c) (not (eqb a c)) (not_from_true (eqb a c) e))) (merge_same k rows records b in_order a c (eqb-true a c e))
      third t u (inr e) =
          let x = zone_there keeps a t in
          let y = zone_there keeps c u in
          let ne = eqb-false a c e in
          subst (λ st. Keeps st (joined_by k (length s.cells) (length s.table) in_order a c b)) (sym (cond-true test (link_put k in_order a c s) s (and_from (zone? s a) (zone? s c && not (eqb a c)) t (and_from (zone? s c) (not (eqb a c)) u (not_from_false (eqb a c) e)))))
          (subst (Keeps (link_put k in_order a c s)) (sym (merge_taken k rows records b in_order a c x.0 y.0 x.1 y.1 ne)) (keeps_link_put in_order a c x.0 y.0 x.1 y.1 ne))

      second : zone? s a ≡ true → (zone? s c ≡ true) ⊎ (zone? s c ≡ false) → Keeps (cond test (link_put k in_order a c s) s) (joined_by k (length s.cells) (length s.table) in_order a c b)
      second t (inl u) = third t u (cases_Bool (eqb a c))
      second t (inr u) = stays (and_right (zone? s a) (zone? s c && not (eqb a c)) (and_left (zone? s c) (not (eqb a c)) u)) (merge_no_second k rows records b in_order a c (zone_gone keeps c u))

      first : (zone? s a ≡ true) ⊎ (zone? s a ≡ false) → Keeps (cond test (link_put k in_order a c s) s) (joined_by k (length s.cells) (length s.table) in_order a c b)
      first (inl t) = second t (cases_Bool (zone? s c))
      first (inr t) = stays (and_left (zone? s a) (zone? s c && not (eqb a c)) t) (merge_no_first k rows records b in_order a c (zone_gone keeps a t))

  pub merge_replied : (in_order : Bool) (a c : ℕ) → state_reply k s (merge in_order a c) ≡ reply k (length s.cells) (length s.table) b (merge in_order a c)
  merge_replied in_order a c =
      if_zone_is a (if_zone k s c (cond (eqb a c) (declines 4 None) (steps (length (chain_at s a))))) (λ x. on_zone c (zone_of b.zones c) (λ y. cond (eqb a c) (declines 4 None) (steps (length x.chain))))
      (λ x p. if_zone_is c (cond (eqb a c) (declines 4 None) (steps (length (chain_at s a)))) (λ y. cond (eqb a c) (declines 4 None) (steps (length x.chain)))
      (λ y q. ap (λ ch. cond (eqb a c) (declines 4 None) (steps (length ch))) (zone_chain keeps a x p)))
