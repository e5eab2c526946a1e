-- Tables that keep a book keep it through each write.
use Rattle.std.proofs.Common.{◌≡◌, ℕ, ◌+◌, ◌-◌, ◌<◌, ◌≤◌, Bool, true, false, List, [], ◌∷◌, ◌++◌, length, get_or, take, set, Some, None, sym, refl, ap, ◌∙◌, subst, inl, inr, arith}
use lib.ListN.{get_or-map}
use lib.Seq.{take-set-lt, map-set_same}
use Rattle.std.specs.List.{flat_map}
use Rattle.std.proofs.lemmas.List.{length-take-le, length-map, length-set, take_more_set, map_push, get_or-set_same, get_or-set_other, get_or-take}
use Rattle.std.proofs.ByRecursion.{All-push, All-weaker}
use Rattle.std.proofs.lemmas.Bool.{cases_eq}
use Rattle.rules.specs.Column.{Column}
use Rattle.rules.specs.Rows.{Row, Every}
use Rattle.rules.specs.Sets.{Entries}
use Rattle.book.specs.Book.{Span, Zone, Book, fresh, span_at, row_at, zone_of, with_zone, without_zone, set_changed, zones_changed, row_added, open_zone, record_added, joined_zone, zones_joined}
use Rattle.book.specs.Chains.{Filed, no_record, record_at, next_of, linked_to, InUse, ChainFrom, occurs}
use Rattle.book.specs.Law.{span_in, spans_in, chain_of, Linked, ChainsStand}
use Rattle.book.specs.Sound.{ChainUsed, Sound}
use Rattle.rules.specs.Claims.{some?}
use Rattle.book.specs.Keeps.{is_live, Carries}
use Rattle.rules.proofs.Lists.{every_in, in_every, every_front, every_both}
use Rattle.book.proofs.Occurs.{occurs_append, occurs_part, counts_itself, in_occurs, from_to_at_most_once}
use Rattle.book.proofs.Zones.{some_same, every_with, every_without, every_elsewhere, each_found, found_every, occurs_without, zone_of_without, zone_of_without_itself, live_with, live_push, live_last}
use Rattle.book.proofs.Soundness.{chains_in_use}
use Rattle.book.proofs.Linking.{chain_kept, chain_joined, absent_from}
use Rattle.book.proofs.Standing.{chains_stand}

module _ {V S : Type 0} where
  -- record n after a write, of itself and of another
  pub record_at_written : (table : List (Filed V S)) (n : ℕ) (r : Filed V S) → 1 ≤ n → n ≤ length table → record_at (set table (n - 1) r) n ≡ r
  record_at_written table n r low high = get_or-set_same table (n - 1) r no_record (omega arith)

  pub record_at_other : (table : List (Filed V S)) (n m : ℕ) (r : Filed V S) → 1 ≤ n → 1 ≤ m → (m ≡ n → ⊥) → record_at (set table (n - 1) r) m ≡ record_at table m
  record_at_other table n m r low low' ne = get_or-set_other table (n - 1) (m - 1) r no_record (omega arith)

  pub spans_in_push : (table : List (Filed V S)) (used : ℕ) (r : Filed V S) → used < length table → spans_in (take (used + 1) (set table used r)) ≡ spans_in (take used table) ++ (span_in r ∷ [])
  spans_in_push table used r l = ap spans_in (take_more_set table used r l) ∙ map_push span_in (take used table) r

  -- a write that leaves a record's span leaves all spans
  pub spans_in_kept : (table : List (Filed V S)) (used i : ℕ) (r : Filed V S) → i < used → used ≤ length table → span_in r ≡ span_in (get_or table i no_record) → spans_in (take used (set table i r)) ≡ spans_in (take used table)
  spans_in_kept table used i r l room same =
      let d : Filed V S = no_record in
      ap spans_in (take-set-lt used table i r l) ∙ map-set_same span_in (take used table) i r d (same ∙ ap span_in (sym (get_or-take used table i d l)))

same_span : (a b c d : ℕ) → a ≡ b → c ≡ d → ◌≡◌ {A = Span} (record { first = a; count = c - a }) (record { first = b; count = d - b })
same_span a b c d p q = ap {B = Span} (λ e. record { first = e; count = c - e }) p ∙ ap {B = Span} (λ e. record { first = b; count = e - b }) q

-- two tables as they come keep the book of a new index
pub carries_fresh : {V S : Type 0} (cells : List (Row V)) (table : List (Filed V S)) (live : ℕ → Bool) → Carries {V = V} {S = S} cells 0 0 0 table live fresh
carries_fresh cells table live = record { room = omega arith; rows = refl; closes = refl; places = omega arith; spans = refl; linked = tt; flagged = λ n low high. absurd (omega arith) }

module _ {V S : Type 0} {cells : List (Row V)} {filled closed used : ℕ} {table : List (Filed V S)} {live : ℕ → Bool} {b : Book V S} (keeps : Carries cells filled closed used table live b) where
  -- how much is filled and used, in the book's words
  pub kept_filled : filled ≡ length b.rows
  kept_filled = sym (length-take-le filled cells keeps.room) ∙ ap length keeps.rows

  pub kept_used : used ≡ length b.spans
  kept_used = sym (length-take-le used table keeps.places) ∙ sym (length-map (take used table) span_in) ∙ ap length keeps.spans

  -- a filled cell holds the book's row, and a record in use has the book's span
  pub kept_row : (c : ℕ) → c < filled → row_at b.rows c ≡ row_at cells c
  kept_row c l = ap (λ rs. row_at rs c) (sym keeps.rows) ∙ get_or-take filled cells c None l

  pub kept_span : (n : ℕ) → InUse used n → span_at b.spans n ≡ span_in (record_at table n)
  kept_span n u =
      let d : Filed V S = no_record in
      ap (λ ss. span_at ss n) (sym keeps.spans) ∙ get_or-map span_in (take used table) (n - 1) d ∙ ap span_in (get_or-take used table (n - 1) d (omega (arith, u)))

  -- a row written at the first free cell
  pub carries_append : (row : Row V) → filled < length cells → Carries (set cells filled row) (filled + 1) closed used table live (row_added row b)
  carries_append row l =
      record {
        room = omega (arith, length-set cells filled row);
        rows = take_more_set cells filled row l ∙ ap (λ rs. rs ++ (row ∷ [])) keeps.rows;
        closes = keeps.closes;
        places = keeps.places;
        spans = keeps.spans;
        linked = keeps.linked;
        flagged = keeps.flagged;
      }

  -- a change of sets alone
  pub carries_set : (f : Entries V S → Entries V S) (n : ℕ) → Carries cells filled closed used table live (zones_changed b (with_zone (set_changed f) n b.zones))
  carries_set f n =
      record {
        room = keeps.room;
        rows = keeps.rows;
        closes = keeps.closes;
        places = keeps.places;
        spans = keeps.spans;
        linked = every_with (Linked (next_of table)) (Linked (next_of table)) (set_changed f) n b.zones (λ z ne h. h) (λ z e h. h) keeps.linked;
        flagged = λ m low high. keeps.flagged m low high ∙ sym (live_with (set_changed f) (λ z. refl) n m b.zones);
      }

  pub kept_chains : Sound b → ChainsStand table b
  kept_chains sound = chains_stand table b sound (subst (λ n. spans_in (take n table) ≡ b.spans) kept_used keeps.spans) keeps.linked

  -- a record written at the first free place: the open rows, and no next
  pub carries_close : (k : Column V S) (live' : ℕ → Bool) (es : Entries V S) → Sound b → used < length table → ((n : ℕ) → 1 ≤ n → n ≤ used → live' n ≡ live n) → live' (used + 1) ≡ true → Carries cells filled filled (used + 1) (set table used (record { first = closed; rows = filled - closed; next = 0; set = es })) live' (record_added k b)
  carries_close k live' es sound l others new =
      record {
        room = keeps.room;
        rows = keeps.rows;
        closes = kept_filled;
        places = omega (arith, length-set table used r);
        spans = spans_in_push table used r l ∙ ap (λ ss. ss ++ (span_in r ∷ [])) keeps.spans ∙ ap (λ s. b.spans ++ (s ∷ [])) (same_span closed b.closed filled (length b.rows) keeps.closes kept_filled);
        linked = All-push (Linked next') b.zones (open_zone k b) old (refl, omega arith, ap (λ t. t.next) last);
        flagged = flag;
      }
    where
      r : Filed V S
      r = record { first = closed; rows = filled - closed; next = 0; set = es }

      next' : ℕ → ℕ
      next' = next_of (set table used r)

      last : record_at (set table used r) (length b.spans + 1) ≡ r
      last =
          let e : (length b.spans + 1) - 1 ≡ used = omega (arith, kept_used) in
          subst (λ i. record_at (set table i r) (length b.spans + 1) ≡ r) e (record_at_written table (length b.spans + 1) r (omega arith) (omega (arith, kept_used)))

      kept : (n : ℕ) → InUse (length b.spans) n → next' n ≡ next_of table n
      kept n u =
          let e : (used + 1) - 1 ≡ used = omega arith in
          ap (λ t. t.next) (subst (λ i. record_at (set table i r) n ≡ record_at table n) e (record_at_other table (used + 1) n r (omega arith) u.0 (omega (arith, kept_used))))

      old : Every (Linked next') b.zones
      old = every_both (ChainUsed (length b.spans)) (Linked (next_of table)) (Linked next') b.zones (λ z u c. chain_kept (next_of table) next' z.number z.chain (All-weaker (InUse (length b.spans)) (λ n. next' n ≡ next_of table n) kept z.chain u) c) (chains_in_use b sound) keeps.linked

      flag : (n : ℕ) → 1 ≤ n → n ≤ used + 1 → live' n ≡ is_live (b.zones ++ (open_zone k b ∷ [])) n
      flag n low high =
          elim (cases_eq n (used + 1)) [
            | inl e ↦ ap live' e ∙ new ∙ sym (live_last n b.zones (open_zone k b) (omega (arith, kept_used)))
            | inr ne ↦ others n low (omega arith) ∙ keeps.flagged n low (omega arith) ∙ sym (live_push n b.zones (open_zone k b) (omega (arith, kept_used)))
          ]

-- In a sound book the last record of a zone's chain stands nowhere else.
module _ {V S : Type 0} (b : Book V S) (sound : Sound b) (a l : ℕ) (front : List ℕ) (x : Zone V S) (is : zone_of b.zones a ≡ Some x) (ends : x.chain ≡ front ++ (l ∷ [])) where
  counted_apart : (occurs l front ≡ 0) × (occurs l (flat_map chain_of (without_zone a b.zones)) ≡ 0)
  counted_apart =
      let whole = occurs_without chain_of l 0 a x b.zones sound.rising is in
      let most = from_to_at_most_once l 1 (length b.spans) in
      let same = sound.records l in
      let split = ap (occurs l) ends ∙ occurs_append l front (l ∷ []) in
      let one = counts_itself l in
      (omega arith, omega arith)

  pub last_not_before : occurs l front ≡ 0
  last_not_before = counted_apart.0

  pub last_not_elsewhere : Every (λ z. (a ≡ z.number → ⊥) → occurs l z.chain ≡ 0) b.zones
  last_not_elsewhere =
      let left = without_zone a b.zones in
      every_elsewhere (λ z. occurs l z.chain ≡ 0) a b.zones (All-weaker (λ z. occurs l z.chain ≤ occurs l (flat_map chain_of left)) (λ z. occurs l z.chain ≡ 0) (λ z h. omega (arith, counted_apart.1)) left (occurs_part chain_of l left))

  pub last_in_use : InUse (length b.spans) l
  last_in_use =
      let one = counts_itself l in
      let split = ap (occurs l) ends ∙ occurs_append l front (l ∷ []) in
      every_in (InUse (length b.spans)) l x.chain (found_every (ChainUsed (length b.spans)) a x b.zones is (chains_in_use b sound)) (in_occurs l x.chain (omega arith))

-- what is known of each zone before a merge that writes into record l, the last of zone a's chain
record Known {V S : Type 0} (b : Book V S) (next : ℕ → ℕ) (a l : ℕ) (z : Zone V S) : Type 0 where
  in_use : ChainUsed (length b.spans) z
  linked : Linked next z
  apart : (a ≡ z.number → ⊥) → occurs l z.chain ≡ 0
  found : zone_of b.zones z.number ≡ Some z

module _ {V S : Type 0} {cells : List (Row V)} {filled closed used : ℕ} {table : List (Filed V S)} {live : ℕ → Bool} {b : Book V S} (keeps : Carries cells filled closed used table live b) where
  -- y's number written as next into the last record of zone a's chain, and y's flag put down
  module _ (k : Column V S) (in_order : Bool) (sound : Sound b) (a l : ℕ) (front : List ℕ) (x y : Zone V S) (is : zone_of b.zones a ≡ Some x) (other : zone_of b.zones y.number ≡ Some y) (ne : a ≡ y.number → ⊥) (ends : x.chain ≡ front ++ (l ∷ [])) where
    written : List (Filed V S)
    written = set table (l - 1) (linked_to (record_at table l) y.number)

    in_table : (1 ≤ l) × (l ≤ used)
    in_table = let u = last_in_use b sound a l front x is ends in (u.0, omega (arith, kept_used keeps, u))

    next_last : next_of written l ≡ y.number
    unfolding written
    next_last = ap (λ r. r.next) (record_at_written table l (linked_to (record_at table l) y.number) in_table.0 (omega (arith, in_table.1, keeps.places)))

    next_other : (m : ℕ) → 1 ≤ m → (m ≡ l → ⊥) → next_of written m ≡ next_of table m
    unfolding written
    next_other m low d = ap (λ r. r.next) (record_at_other table l m (linked_to (record_at table l) y.number) in_table.0 low d)

    -- a list of records in use without the last one keeps its nexts
    nexts_kept : (ns : List ℕ) → Every (InUse (length b.spans)) ns → occurs l ns ≡ 0 → Every (λ m. next_of written m ≡ next_of table m) ns
    nexts_kept ns u e = every_both (InUse (length b.spans)) (λ m. m ≡ l → ⊥) (λ m. next_of written m ≡ next_of table m) ns (λ m r d. next_other m r.0 d) u (absent_from l ns e)

    chain_elsewhere : (z : Zone V S) → ChainUsed (length b.spans) z → Linked (next_of table) z → occurs l z.chain ≡ 0 → Linked (next_of written) z
    chain_elsewhere z u c e = chain_kept (next_of table) (next_of written) z.number z.chain (nexts_kept z.chain u e) c

    known : Every (Known b (next_of table) a l) b.zones
    known = in_every (Known b (next_of table) a l) b.zones (λ z i. record {
      in_use = every_in (ChainUsed (length b.spans)) z b.zones (chains_in_use b sound) i;
      linked = every_in (Linked (next_of table)) z b.zones keeps.linked i;
      apart = every_in (λ w. (a ≡ w.number → ⊥) → occurs l w.chain ≡ 0) z b.zones (last_not_elsewhere b sound a l front x is ends) i;
      found = (every_in (λ w. (0 < w.number) × (zone_of b.zones w.number ≡ Some w)) z b.zones (each_found 0 b.zones sound.rising) i).1;
    })

    chain_of_both : ChainFrom (next_of written) x.number (x.chain ++ y.chain)
    chain_of_both =
        let kx = found_every (Known b (next_of table) a l) a x b.zones is known in
        let ky = found_every (Known b (next_of table) a l) y.number y b.zones other known in
        let before = every_front (InUse (length b.spans)) front (l ∷ []) (subst (Every (InUse (length b.spans))) ends kx.in_use) in
        let kept = nexts_kept front before (last_not_before b sound a l front x is ends) in
        let first = subst (ChainFrom (next_of table) x.number) ends kx.linked in
        let second = chain_elsewhere y ky.in_use ky.linked (ky.apart ne) in
        subst (λ c. ChainFrom (next_of written) x.number (c ++ y.chain)) (sym ends) (chain_joined (next_of table) (next_of written) x.number front l y.number y.chain kept next_last first second)

    pub carries_merge : (live' : ℕ → Bool) → live' y.number ≡ false → ((n : ℕ) → 1 ≤ n → (n ≡ y.number → ⊥) → live' n ≡ live n) → Carries cells filled closed used (set table (l - 1) (linked_to (record_at table l) y.number)) live' (zones_joined k in_order a y b)
    unfolding written
    carries_merge live' down others =
        record {
          room = keeps.room;
          rows = keeps.rows;
          closes = keeps.closes;
          places = omega (arith, length-set table (l - 1) (linked_to (record_at table l) y.number), keeps.places);
          spans = spans_in_kept table used (l - 1) (linked_to (record_at table l) y.number) (omega (arith, in_table)) keeps.places refl ∙ keeps.spans;
          linked = every_with (Known b (next_of table) a l) (Linked (next_of written)) (joined_zone k in_order y) a (without_zone y.number b.zones) (λ z d h. chain_elsewhere z h.in_use h.linked (h.apart d)) (λ z e h. subst (λ w. ChainFrom (next_of written) w.number (w.chain ++ y.chain)) (some_same x z (sym is ∙ ap (zone_of b.zones) e ∙ h.found)) chain_of_both) (every_without (Known b (next_of table) a l) y.number b.zones known);
          flagged = flag;
        }
      where
        flag : (n : ℕ) → 1 ≤ n → n ≤ used → live' n ≡ is_live (with_zone (joined_zone k in_order y) a (without_zone y.number b.zones)) n
        flag n low high =
            elim (cases_eq n y.number) [
              | inl e ↦ ap live' e ∙ down ∙ sym (live_with (joined_zone k in_order y) (λ z. refl) a n (without_zone y.number b.zones) ∙ ap (is_live (without_zone y.number b.zones)) e ∙ ap some? (zone_of_without_itself y.number b.zones))
              | inr d ↦ others n low d ∙ keeps.flagged n low high ∙ sym (live_with (joined_zone k in_order y) (λ z. refl) a n (without_zone y.number b.zones) ∙ ap some? (zone_of_without n y.number b.zones d))
            ]
