-- Tables that keep a book keep it through each call, and answer as it does.
use Rattle.std.proofs.Common.{◌≡◌, ℕ, ◌-◌, ◌<◌, ◌≤◌, Bool, true, false, cond, not, ◌&&◌, eqb, ltb, ◌⊎◌, List, length, Some, None, sym, refl, ap, ◌∙◌, subst, inl, inr, arith}
use Rattle.std.proofs.lemmas.List.{length-set}
use Rattle.std.proofs.ByRecursion.{All-weaker}
use Rattle.std.proofs.lemmas.Bool.{cases_eq, cases_lt, lt-ltb, le-ltb, eq-eqb, ne_eqb, and_left, not_from_true, not_from_false}
use Rattle.rules.specs.Rows.{Row, Every}
use Rattle.rules.specs.Claims.{some?}
use Rattle.rules.specs.Sets.{Entries}
use Rattle.rules.proofs.Lists.{in_every, every_both}
use Rattle.book.specs.Book.{Zone, Book, zone_of}
use Rattle.book.specs.Chains.{Filed, record_at, next_of, with_set, InUse, walked}
use Rattle.book.specs.Law.{Linked}
use Rattle.book.specs.Sound.{Sound}
use Rattle.book.specs.State.{State, flag_at, zone?, set_of, chain_at, set_put}
use Rattle.book.specs.Keeps.{is_live, Carries, Keeps}
use Rattle.book.proofs.Zones.{live_found, live_not_found, found_every, found_number, zone_of_below}
use Rattle.book.proofs.Soundness.{numbers_in_use, chains_in_use}
use Rattle.book.proofs.Lengths.{length_chain}
use Rattle.book.proofs.Tables.{record_at_written, record_at_other, spans_in_kept, kept_filled, kept_used}
use Rattle.book.proofs.Linking.{chain_kept}
use Rattle.book.proofs.Walking.{walked_chain}

-- two choices by one test
pub cond_pair : {A B : Type 0} (t : Bool) (x s : A) (y b : B) (R : A → B → Type 0) → (t ≡ true → R x y) → (t ≡ false → R s b) → R (cond t x s) (cond t y b)
cond_pair true x s y b R on off = on refl
cond_pair false x s y b R on off = off refl

module _ {V S : Type 0} {s : State V S} {b : Book V S} (keeps : Keeps s b) where
  pub is_filled : s.filled ≡ length b.rows
  is_filled = kept_filled keeps.carries

  pub is_used : s.used ≡ length b.spans
  is_used = kept_used keeps.carries

  -- a number that is no record's in use is no zone's
  zone_past : (n : ℕ) → s.used < n → zone_of b.zones n ≡ None
  zone_past n l = live_not_found n b.zones (no (is_live b.zones n) refl)
    where
      no : (t : Bool) → is_live b.zones n ≡ t → is_live b.zones n ≡ false
      no true e =
          let f = live_found n b.zones e in
          let u = found_every (λ z. InUse (length b.spans) z.number) n f.0 b.zones f.1 (numbers_in_use b keeps.sound) in
          absurd (omega (arith, u.1, found_number n f.0 b.zones f.1, is_used))
      no false e = e

  -- the test of a zone's number is the book's
  pub zone_is : (n : ℕ) → zone? s n ≡ is_live b.zones n
  zone_is n =
      elim (cases_eq n 0) [
        | inl e ↦ and_left (not (eqb n 0)) _ (not_from_true (eqb n 0) (eq-eqb n 0 e)) ∙ sym (ap some? (zone_of_below n 0 b.zones (omega arith) keeps.sound.rising))
        | inr ne ↦ ap (λ t. t && (ltb (n - 1) s.used && flag_at s.live n)) (not_from_false (eqb n 0) (ne_eqb n 0 ne)) ∙ in_use ne (cases_lt (n - 1) s.used)
      ]
    where
      in_use : (n ≡ 0 → ⊥) → (n - 1 < s.used) ⊎ (s.used ≤ n - 1) → (ltb (n - 1) s.used && flag_at s.live n) ≡ is_live b.zones n
      in_use ne (inl l) = ap (λ t. t && flag_at s.live n) (lt-ltb (n - 1) s.used l) ∙ keeps.carries.flagged n (omega arith) (omega arith)
      in_use ne (inr g) = ap (λ t. t && flag_at s.live n) (le-ltb (n - 1) s.used g) ∙ sym (ap some? (zone_past n (omega arith)))

  pub zone_there : (n : ℕ) → zone? s n ≡ true → (z : Zone V S) × (zone_of b.zones n ≡ Some z)
  zone_there n t = live_found n b.zones (sym (zone_is n) ∙ t)

  pub zone_gone : (n : ℕ) → zone? s n ≡ false → zone_of b.zones n ≡ None
  zone_gone n t = live_not_found n b.zones (sym (zone_is n) ∙ t)

  -- a zone's record is in use, holds its set, and begins its chain
  pub zone_used : (n : ℕ) (z : Zone V S) → zone_of b.zones n ≡ Some z → InUse s.used n
  zone_used n z e =
      let u = found_every (λ y. InUse (length b.spans) y.number) n z b.zones e (numbers_in_use b keeps.sound) in
      let f = found_number n z b.zones e in
      (omega (arith, u, f), omega (arith, u, f, is_used))

  pub zone_set : (n : ℕ) (z : Zone V S) → zone_of b.zones n ≡ Some z → set_of s n ≡ z.set
  zone_set n z e = ap (λ m. set_of s m) (sym (found_number n z b.zones e)) ∙ found_every (λ y. (record_at s.table y.number).set ≡ y.set) n z b.zones e keeps.sets

  pub zone_chain : (n : ℕ) (z : Zone V S) → zone_of b.zones n ≡ Some z → chain_at s n ≡ z.chain
  zone_chain n z e =
      let linked = found_every (Linked (next_of s.table)) n z b.zones e keeps.carries.linked in
      let short : length z.chain ≤ s.used = omega (arith, found_every (λ y. length y.chain ≤ length b.spans) n z b.zones e (in_every (λ y. length y.chain ≤ length b.spans) b.zones (λ y i. length_chain b keeps.sound y i)), is_used) in
      ap (walked (next_of s.table) s.used) (sym (found_number n z b.zones e)) ∙ walked_chain (next_of s.table) s.used z.number z.chain linked short

-- A write of one record's set leaves spans and nexts.
module _ {V S : Type 0} (table : List (Filed V S)) (n : ℕ) (es : Entries V S) (low : 1 ≤ n) (high : n ≤ length table) where
  pub next_set_put : (m : ℕ) → 1 ≤ m → next_of (set_put table n es) m ≡ next_of table m
  next_set_put m low' =
      elim (cases_eq m n) [
        | inl e ↦ subst (λ i. next_of (set_put table n es) i ≡ next_of table i) (sym e) (ap (λ r. r.next) (record_at_written table n (with_set (record_at table n) es) low high))
        | inr ne ↦ ap (λ r. r.next) (record_at_other table n m (with_set (record_at table n) es) low low' ne)
      ]

  pub set_put_other : (m : ℕ) → 1 ≤ m → (m ≡ n → ⊥) → (record_at (set_put table n es) m).set ≡ (record_at table m).set
  set_put_other m low' ne = ap (λ r. r.set) (record_at_other table n m (with_set (record_at table n) es) low low' ne)

  pub set_put_same : (record_at (set_put table n es) n).set ≡ es
  set_put_same = ap (λ r. r.set) (record_at_written table n (with_set (record_at table n) es) low high)

  pub carries_set_put : {cells : List (Row V)} {filled closed used : ℕ} {live : ℕ → Bool} {b : Book V S} → Sound b → n ≤ used → Carries cells filled closed used table live b → Carries cells filled closed used (set_put table n es) live b
  carries_set_put {cells} {filled} {closed} {used} {live} {b} sound in_use keeps =
      record {
        room = keeps.room;
        rows = keeps.rows;
        closes = keeps.closes;
        places = omega (arith, length-set table (n - 1) (with_set (record_at table n) es), keeps.places);
        spans = spans_in_kept table used (n - 1) (with_set (record_at table n) es) (omega arith) keeps.places refl ∙ keeps.spans;
        linked =
            every_both (λ z. Every (InUse (length b.spans)) z.chain) (Linked (next_of table)) (Linked (next_of (set_put table n es))) b.zones
            (λ z u c. chain_kept (next_of table) (next_of (set_put table n es)) z.number z.chain (All-weaker (InUse (length b.spans)) (λ m. next_of (set_put table n es) m ≡ next_of table m) (λ m r. next_set_put m r.0) z.chain u) c)
            (chains_in_use b sound) keeps.linked;
        flagged = keeps.flagged;
      }
