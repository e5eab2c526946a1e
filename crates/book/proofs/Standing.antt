-- A sound book whose chains are linked in the record table: the table's chains are exactly the book's.
use Rattle.std.proofs.Common.{◌≡◌, ℕ, ◌+◌, ◌<◌, ◌≤◌, List, [], ◌∷◌, map, length, take, drop, Some, sym, refl, ap, ◌∙◌, subst, inl, inr, arith}
use Rattle.std.specs.List.{flat_map}
use Rattle.std.proofs.lemmas.Bool.{cases_eq}
use Rattle.rules.specs.Rows.{In, here, later, Every}
use Rattle.book.specs.Book.{Zone, Book, zone_of, without_zone}
use Rattle.book.specs.Chains.{Filed, next_of, InUse, Begins, occurs}
use Rattle.book.specs.Law.{spans_in, chain_of, Linked, ChainsStand}
use Rattle.book.specs.Sound.{Headed, ChainUsed, Sound}
use Rattle.rules.proofs.Lists.{every_in}
use Rattle.book.proofs.Occurs.{occurs_append, occurs_in, in_occurs, part_of, occurs_part, counts_itself}
use Rattle.book.proofs.Zones.{each_found, rise_without, zone_of_without, occurs_without}
use Rattle.book.proofs.Soundness.{numbers_in_use, chains_in_use, record_once, cell_once, cell_only}
use Rattle.book.proofs.Linking.{chain_unique, no_loop, follows, followed}

module _ {V S : Type 0} where
  -- the chains' first records, and what follows them
  abbrev number_of : Zone V S → ℕ
  number_of z = z.number

  abbrev rest_of : Zone V S → List ℕ
  rest_of z = drop 1 z.chain

  -- each record of the chains is a first one or follows one
  firsts_and_rests : (n : ℕ) (zs : List (Zone V S)) → Every Headed zs → occurs n (flat_map chain_of zs) ≡ occurs n (map number_of zs) + occurs n (flat_map rest_of zs)
  firsts_and_rests n [] h = refl
  firsts_and_rests n (z ∷ zs) h =
      let ih = firsts_and_rests n zs h.1 in
      let p = occurs_append n z.chain (flat_map chain_of zs) in
      let q = occurs_append n (rest_of z) (flat_map rest_of zs) in
      let r = ap (occurs n) h.0.1 in
      let s = ap (λ l. occurs n (drop 1 l)) h.0.1 in
      omega arith

  number_stands : (z : Zone V S) (zs : List (Zone V S)) → In z zs → 1 ≤ occurs z.number (map number_of zs)
  number_stands z [] l = elim l [ ]
  number_stands z (y ∷ ys) here = let o = counts_itself z.number in omega arith
  number_stands z (y ∷ ys) (later l) = let r = number_stands z ys l in omega arith

  part_stands : (f : Zone V S → List ℕ) (n : ℕ) (z : Zone V S) (zs : List (Zone V S)) → In z zs → occurs n (f z) ≤ occurs n (flat_map f zs)
  part_stands f n z zs l = every_in (λ y. occurs n (f y) ≤ occurs n (flat_map f zs)) z zs (occurs_part f n zs) l

module _ {V S : Type 0} (next : ℕ → ℕ) (b : Book V S) (sound : Sound b) (linked : Every (Linked next) b.zones) where
  chain_linked : (z : Zone V S) → In z b.zones → Linked next z
  chain_linked z l = every_in (Linked next) z b.zones linked l

  zone_found : (z : Zone V S) → In z b.zones → zone_of b.zones z.number ≡ Some z
  zone_found z l = (every_in (λ y. (0 < y.number) × (zone_of b.zones y.number ≡ Some y)) z b.zones (each_found 0 b.zones sound.rising) l).1

  number_in_use : (z : Zone V S) → In z b.zones → InUse (length b.spans) z.number
  number_in_use z l = let r = every_in (λ y. InUse (length b.spans) y.number) z b.zones (numbers_in_use b sound) l in (r.0, omega arith)

  record_in_use : (z : Zone V S) → In z b.zones → (n : ℕ) → 1 ≤ occurs n z.chain → InUse (length b.spans) n
  record_in_use z l n o =
      let c = every_in (ChainUsed (length b.spans)) z b.zones (chains_in_use b sound) l in
      let r = every_in (InUse (length b.spans)) n z.chain c (in_occurs n z.chain o) in
      (r.0, omega arith)

  -- a record that is no other's next is a zone's number
  begins_zone : (n : ℕ) → Begins next (length b.spans) n → (z : Zone V S) × (zone_of b.zones n ≡ Some z)
  begins_zone n g =
      let p = part_of chain_of n b.zones (let o = record_once b sound n g.in_use in omega arith) in
      let z = p.0 in
      elim (cases_eq n z.number) [
        | inl e ↦ (z, ap (zone_of b.zones) e ∙ zone_found z p.1)
        | inr ne ↦
            let f = followed next z.number z.chain n p.2 (chain_linked z p.1) ne in
            let u = record_in_use z p.1 f.0 f.1 in
            absurd (g.first f.0 u (λ h. no_loop next z.number z.chain n g.in_use.0 p.2 (chain_linked z p.1) (subst (λ k. next k ≡ n) h f.2)) f.2)
      ]

  -- a zone's number is no record's next: it would stand in the chains twice
  zone_begins : (z : Zone V S) → In z b.zones → Begins next (length b.spans) z.number
  zone_begins z l = record { in_use = number_in_use z l; first = none }
    where
      none : (m : ℕ) → InUse (length b.spans) m → (m ≡ z.number → ⊥) → next m ≡ z.number → ⊥
      none m used ne e =
          let u = number_in_use z l in
          let p = part_of chain_of m b.zones (let o = record_once b sound m used in omega arith) in
          let w = p.0 in
          let f = follows next w.number w.chain m p.2 (chain_linked w p.1) (omega arith) in
          let g : 1 ≤ occurs z.number (rest_of w) = subst (λ k. 1 ≤ occurs k (rest_of w)) e f in
          let s = part_stands rest_of z.number w b.zones p.1 in
          let t = number_stands z b.zones l in
          let a = firsts_and_rests z.number b.zones sound.headed in
          let c = record_once b sound z.number u in
          omega arith

  -- no two zones share a record: it would stand in the chains twice
  pub zones_apart : (x y : Zone V S) (n : ℕ) → In x b.zones → In y b.zones → In n x.chain → In n y.chain → x.number ≡ y.number
  zones_apart x y n p q i j =
      elim (cases_eq x.number y.number) [
        | inl e ↦ e
        | inr ne ↦
            let left = without_zone x.number b.zones in
            let first = occurs_without chain_of n 0 x.number x b.zones sound.rising (zone_found x p) in
            let second = occurs_without chain_of n 0 y.number y left (rise_without x.number 0 b.zones sound.rising) (zone_of_without y.number x.number b.zones (λ e. ne (sym e)) ∙ zone_found y q) in
            let o = occurs_in n x.chain i in
            let r = occurs_in n y.chain j in
            let u = record_in_use x p n o in
            absurd (let w = record_once b sound n u in omega arith)
      ]

pub chains_stand : {V S : Type 0} (table : List (Filed V S)) (b : Book V S) → Sound b → spans_in (take (length b.spans) table) ≡ b.spans → Every (Linked (next_of table)) b.zones → ChainsStand table b
chains_stand table b sound spans linked =
    record {
      spans = spans;
      begun = begins_zone (next_of table) b sound linked;
      whole = λ z ns l c. chain_unique (next_of table) z.number ns z.chain c (chain_linked (next_of table) b sound linked z l);
      live = λ z l. (zone_begins (next_of table) b sound linked z l, chain_linked (next_of table) b sound linked z l);
      apart = zones_apart (next_of table) b sound linked;
      once = cell_once b sound;
      only = cell_only b sound;
    }
