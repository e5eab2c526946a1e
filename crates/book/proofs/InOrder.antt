-- The live zones by rising number: going through the records' numbers from 1 on meets them in the book's order.
use Rattle.std.proofs.Common.{◌≡◌, ℕ, zero, suc, ◌+◌, ◌≤◌, List, [], ◌∷◌, ◌++◌, length, refl, ap, ◌∙◌, inl, inr, arith}
use Rattle.std.specs.List.{flat_map}
use Rattle.std.proofs.ByRecursion.{All-weaker}
use Rattle.std.proofs.lemmas.Bool.{cases_eq}
use Rattle.rules.specs.Rows.{Every}
use Rattle.book.specs.Book.{Zone, Book, zone_of, from_to}
use Rattle.book.specs.Chains.{InUse}
use Rattle.book.specs.Law.{one_or_none, zones_to}
use Rattle.book.specs.Sound.{RiseAbove, Sound}
use Rattle.book.proofs.Occurs.{joined_same, joined_push, every_from_to, from_to_push}
use Rattle.book.proofs.Zones.{zone_of_here, zone_of_later, zone_of_below, rise_lower}
use Rattle.book.proofs.Soundness.{numbers_in_use}

module _ {V S : Type 0} where
  pub zones_to_more : (zs : List (Zone V S)) (n : ℕ) → zones_to zs (n + 1) ≡ zones_to zs n ++ one_or_none (zone_of zs (1 + n))
  zones_to_more zs n = ap (flat_map (λ m. one_or_none (zone_of zs m))) (from_to_push 1 n) ∙ joined_push (λ m. one_or_none (zone_of zs m)) (from_to 1 n) (1 + n)

  zones_from : (a n : ℕ) (zs : List (Zone V S)) → RiseAbove a zs → Every (λ z. z.number ≤ a + n) zs → flat_map (λ m. one_or_none (zone_of zs m)) (from_to (a + 1) n) ≡ zs
  zones_from a zero [] r h = refl
  zones_from a zero (z ∷ zs) r h = absurd (omega (arith, r.0, h.0))
  zones_from a (suc n) [] r h = zones_from (a + 1) n [] tt tt
  zones_from a (suc n) (z ∷ zs) r h =
      let at = λ (ys : List (Zone V S)) (m : ℕ). one_or_none (zone_of ys m) in
      elim (cases_eq (a + 1) z.number) [
        | inl e ↦
            let past = joined_same (at (z ∷ zs)) (at zs) (from_to (a + 1 + 1) n) (every_from_to (λ m. at (z ∷ zs) m ≡ at zs m) (a + 1 + 1) n (λ m low high. ap one_or_none (zone_of_later m z zs (omega arith)))) in
            let rest = zones_from (a + 1) n zs (rise_lower (a + 1) z.number zs (omega arith) r.1) (All-weaker (λ y. y.number ≤ a + suc n) (λ y. y.number ≤ (a + 1) + n) (λ y u. omega arith) zs h.1) in
            ap (λ l. l ++ flat_map (at (z ∷ zs)) (from_to (a + 1 + 1) n)) (ap one_or_none (zone_of_here (a + 1) z zs e)) ∙ ap (λ l. z ∷ l) (past ∙ rest)
        | inr ne ↦
            let above : RiseAbove (a + 1) (z ∷ zs) = (omega (arith, r.0), r.1) in
            let rest = zones_from (a + 1) n (z ∷ zs) above (All-weaker (λ y. y.number ≤ a + suc n) (λ y. y.number ≤ (a + 1) + n) (λ y u. omega arith) (z ∷ zs) h) in
            ap (λ l. l ++ flat_map (at (z ∷ zs)) (from_to (a + 1 + 1) n)) (ap one_or_none (zone_of_below (a + 1) (a + 1) (z ∷ zs) (omega arith) above)) ∙ rest
      ]

  pub zones_to_all : (b : Book V S) → Sound b → zones_to b.zones (length b.spans) ≡ b.zones
  zones_to_all b sound = zones_from 0 (length b.spans) b.zones sound.rising (All-weaker (λ z. InUse (length b.spans) z.number) (λ z. z.number ≤ 0 + length b.spans) (λ z u. omega arith) b.zones (numbers_in_use b sound))
