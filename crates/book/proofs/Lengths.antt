-- A list that holds each number from a on exactly once, n of them, and no other, is n long.
use Rattle.std.proofs.Common.{◌≡◌, ℕ, zero, suc, ◌+◌, ◌≤◌, cond, eqb, List, [], ◌∷◌, length, sym, refl, ap, ◌∙◌, inl, inr, arith}
use Rattle.std.specs.List.{flat_map}
use Rattle.std.proofs.lemmas.List.{length-append}
use Rattle.std.proofs.lemmas.Bool.{cases_eq}
use Rattle.rules.specs.Rows.{In, here, later, Every}
use Rattle.book.specs.Book.{Zone, Book, from_to}
use Rattle.book.specs.Chains.{occurs}
use Rattle.book.specs.Law.{chain_of, all_records, all_cells}
use Rattle.book.specs.Sound.{Sound}
use Rattle.rules.proofs.Lists.{in_every}
use Rattle.book.proofs.Occurs.{counts_other, occurs_in, occurs_from_to, from_to_bounds}

-- how often the numbers from a on, n of them, stand in the list together
tally : ℕ → ℕ → List ℕ → ℕ
tally a zero xs = 0
tally a (suc n) xs = occurs a xs + tally (a + 1) n xs

counts_either_way : (x y : ℕ) → ◌≡◌ {A = ℕ} (cond (eqb x y) 1 0) (cond (eqb y x) 1 0)
counts_either_way x y =
    elim (cases_eq x y) [
      | inl e ↦ rw e refl
      | inr ne ↦ counts_other x y ne ∙ sym (counts_other y x (λ e. ne (sym e)))
    ]

tally_none : (a n : ℕ) → tally a n [] ≡ 0
unfolding tally
tally_none a zero = refl
tally_none a (suc n) = let ih = tally_none (a + 1) n in omega arith

tally_more : (a n x : ℕ) (xs : List ℕ) → tally a n (x ∷ xs) ≡ occurs x (from_to a n) + tally a n xs
unfolding tally
tally_more a zero x xs = refl
tally_more a (suc n) x xs = let ih = tally_more (a + 1) n x xs in let e = counts_either_way a x in omega arith

tally_all : (a n : ℕ) (xs : List ℕ) → Every (λ c. occurs c (from_to a n) ≡ 1) xs → tally a n xs ≡ length xs
tally_all a n [] h = tally_none a n
tally_all a n (x ∷ xs) h = let ih = tally_all a n xs h.1 in let e = tally_more a n x xs in omega arith

tally_same : (a n : ℕ) (xs ys : List ℕ) → ((c : ℕ) → occurs c xs ≡ occurs c ys) → tally a n xs ≡ tally a n ys
unfolding tally
tally_same a zero xs ys h = refl
tally_same a (suc n) xs ys h = let ih = tally_same (a + 1) n xs ys h in let e = h a in omega arith

length_from_to : (a n : ℕ) → length (from_to a n) ≡ n
length_from_to a zero = refl
length_from_to a (suc n) = ap suc (length_from_to (a + 1) n)

pub length_from_counts : (a n : ℕ) (xs : List ℕ) → ((c : ℕ) → occurs c xs ≡ occurs c (from_to a n)) → length xs ≡ n
length_from_counts a n xs same =
    sym (tally_all a n xs (in_every (λ c. occurs c (from_to a n) ≡ 1) xs (λ c i. one c (let o = occurs_in c xs i in omega (arith, same c)))))
    ∙ tally_same a n xs (from_to a n) same
    ∙ tally_all a n (from_to a n) (in_every (λ c. occurs c (from_to a n) ≡ 1) (from_to a n) (λ c i. one c (occurs_in c (from_to a n) i)))
    ∙ length_from_to a n
  where
    one : (c : ℕ) → 1 ≤ occurs c (from_to a n) → occurs c (from_to a n) ≡ 1
    one c h = let r = from_to_bounds c a n h in occurs_from_to c a n r.0 r.1

-- a part is no longer than the whole
pub length_part : {X : Type 0} (f : X → List ℕ) (x : X) (xs : List X) → In x xs → length (f x) ≤ length (flat_map f xs)
length_part f x [] i = elim i [ ]
length_part f x (y ∷ ys) here = let e = length-append (f x) (flat_map f ys) in omega arith
length_part f x (y ∷ ys) (later i) = let ih = length_part f x ys i in let e = length-append (f y) (flat_map f ys) in omega arith

-- in a sound book there are as many cells along the chains as closed rows, and no chain is longer than the records in use
module _ {V S : Type 0} (b : Book V S) (sound : Sound b) where
  pub length_all_cells : length (all_cells b) ≡ b.closed
  length_all_cells = length_from_counts 0 b.closed (all_cells b) sound.cells

  pub length_all_records : length (all_records b) ≡ length b.spans
  length_all_records = length_from_counts 1 (length b.spans) (all_records b) sound.records

  pub length_chain : (z : Zone V S) → In z b.zones → length z.chain ≤ length b.spans
  length_chain z i = omega (arith, length_part chain_of z b.zones i, length_all_records)
