-- How often a number stands in a list: in two lists together, in lists joined, and from a number on.
use Rattle.std.proofs.Common.{◌≡◌, ℕ, zero, suc, ◌+◌, ◌<◌, ◌≤◌, cond, eqb, List, [], ◌∷◌, ◌++◌, sym, refl, ap, ◌∙◌, subst, inl, inr, add-zero, suc-add, zero-add, arith}
use Rattle.std.specs.List.{flat_map}
use Rattle.std.proofs.lemmas.List.{append_assoc, append-nil}
use Rattle.std.proofs.lemmas.Bool.{eq-eqb, ne_eqb, cases_eq, cond-true, cond-false}
use Rattle.rules.specs.Rows.{In, here, later, Every}
use Rattle.book.specs.Book.{from_to}
use Rattle.book.specs.Chains.{occurs}
use Rattle.rules.proofs.Lists.{every_in, in_every}

-- one place
pub counts_itself : (x : ℕ) → ◌≡◌ {A = ℕ} (cond (eqb x x) 1 0) 1
counts_itself x = cond-true (eqb x x) 1 0 (eq-eqb x x refl)

pub counts_other : (x y : ℕ) → (x ≡ y → ⊥) → ◌≡◌ {A = ℕ} (cond (eqb x y) 1 0) 0
counts_other x y ne = cond-false (eqb x y) 1 0 (ne_eqb x y ne)

-- two lists
pub occurs_append : (x : ℕ) (xs ys : List ℕ) → occurs x (xs ++ ys) ≡ occurs x xs + occurs x ys
occurs_append x [] ys = sym (zero-add (occurs x ys))
occurs_append x (y ∷ xs) ys = let ih = occurs_append x xs ys in omega arith

-- standing in a list, by counting
pub occurs_in : (x : ℕ) (xs : List ℕ) → In x xs → 1 ≤ occurs x xs
occurs_in x [] h = elim h [ ]
occurs_in x (y ∷ ys) here = let e = counts_itself x in omega arith
occurs_in x (y ∷ ys) (later h) = let ih = occurs_in x ys h in omega arith

pub in_occurs : (x : ℕ) (xs : List ℕ) → 1 ≤ occurs x xs → In x xs
in_occurs x [] h = absurd (omega arith)
in_occurs x (y ∷ ys) h =
    elim (cases_eq x y) [
      | inl e ↦ subst (λ z. In x (z ∷ ys)) e here
      | inr ne ↦ let z = counts_other x y ne in later (in_occurs x ys (omega arith))
    ]

-- lists joined
module _ {X A : Type 0} (f : X → List A) where
  pub joined_append : (xs ys : List X) → flat_map f (xs ++ ys) ≡ flat_map f xs ++ flat_map f ys
  joined_append [] ys = refl
  joined_append (x ∷ xs) ys = ap (λ l. f x ++ l) (joined_append xs ys) ∙ sym (append_assoc (f x) (flat_map f xs) (flat_map f ys))

  pub joined_one : (x : X) → flat_map f (x ∷ []) ≡ f x
  joined_one x = append-nil (f x)

  pub joined_push : (xs : List X) (x : X) → flat_map f (xs ++ (x ∷ [])) ≡ flat_map f xs ++ f x
  joined_push xs x = joined_append xs (x ∷ []) ∙ ap (λ l. flat_map f xs ++ l) (joined_one x)

module _ {X : Type 0} (f : X → List ℕ) where
  pub occurs_joined_push : (n : ℕ) (xs : List X) (x : X) → occurs n (flat_map f (xs ++ (x ∷ []))) ≡ occurs n (flat_map f xs) + occurs n (f x)
  occurs_joined_push n xs x = ap (occurs n) (joined_push f xs x) ∙ occurs_append n (flat_map f xs) (f x)

  -- what stands in a part stands in the whole
  pub occurs_part : (n : ℕ) (xs : List X) → Every (λ x. occurs n (f x) ≤ occurs n (flat_map f xs)) xs
  occurs_part n [] = tt
  occurs_part n (x ∷ xs) = let e = occurs_append n (f x) (flat_map f xs) in (omega arith, bigger xs (occurs_part n xs))
    where
      bigger : (ys : List X) → Every (λ y. occurs n (f y) ≤ occurs n (flat_map f xs)) ys → Every (λ y. occurs n (f y) ≤ occurs n (flat_map f (x ∷ xs))) ys
      bigger [] h = tt
      bigger (y ∷ ys) h = let e = occurs_append n (f x) (flat_map f xs) in (omega (arith, h.0), bigger ys h.1)

  -- and the other way round, in some part
  pub part_of : (n : ℕ) (xs : List X) → 1 ≤ occurs n (flat_map f xs) → (x : X) × In x xs × (1 ≤ occurs n (f x))
  part_of n [] h = absurd (omega arith)
  part_of n (x ∷ xs) h =
      let e = occurs_append n (f x) (flat_map f xs) in
      elim (cases_eq (occurs n (f x)) 0) [
        | inl z ↦ let r = part_of n xs (omega arith) in (r.0, later r.1, r.2)
        | inr ne ↦ (x, here, omega arith)
      ]

-- the same lists joined, if the two functions agree where it matters
pub joined_same : {X A : Type 0} (f g : X → List A) (xs : List X) → Every (λ x. f x ≡ g x) xs → flat_map f xs ≡ flat_map g xs
joined_same f g [] h = refl
joined_same f g (x ∷ xs) h = cc (h.0, joined_same f g xs h.1)

-- from a number on
pub occurs_from_to_below : (c a n : ℕ) → c < a → occurs c (from_to a n) ≡ 0
occurs_from_to_below c a zero h = refl
occurs_from_to_below c a (suc n) h = let e = counts_other c a (omega arith) in let ih = occurs_from_to_below c (a + 1) n (omega arith) in omega arith

pub occurs_from_to_past : (c a n : ℕ) → a + n ≤ c → occurs c (from_to a n) ≡ 0
occurs_from_to_past c a zero h = refl
occurs_from_to_past c a (suc n) h = let e = counts_other c a (omega arith) in let ih = occurs_from_to_past c (a + 1) n (omega arith) in omega arith

pub occurs_from_to : (c a n : ℕ) → a ≤ c → c < a + n → occurs c (from_to a n) ≡ 1
occurs_from_to c a zero h l = absurd (omega arith)
occurs_from_to c a (suc n) h l =
    elim (cases_eq c a) [
      | inl e ↦
          let o : ◌≡◌ {A = ℕ} (cond (eqb c a) 1 0) 1 = cond-true (eqb c a) 1 0 (eq-eqb c a e) in
          let r = occurs_from_to_below c (a + 1) n (omega arith) in
          omega arith
      | inr ne ↦
          let o = counts_other c a ne in
          let ih = occurs_from_to c (a + 1) n (omega arith) (omega arith) in
          omega arith
    ]

-- what is there lies between the ends
pub from_to_bounds : (c a n : ℕ) → 1 ≤ occurs c (from_to a n) → (a ≤ c) × (c < a + n)
from_to_bounds c a zero h = absurd (omega arith)
from_to_bounds c a (suc n) h =
    elim (cases_eq c a) [
      | inl e ↦ (omega arith, omega arith)
      | inr ne ↦ let o = counts_other c a ne in let ih = from_to_bounds c (a + 1) n (omega arith) in (omega arith, omega arith)
    ]

pub every_from_to : (P : ℕ → Type 0) (a n : ℕ) → ((c : ℕ) → a ≤ c → c < a + n → P c) → Every P (from_to a n)
every_from_to P a zero h = tt
every_from_to P a (suc n) h = (h a (omega arith) (omega arith), every_from_to P (a + 1) n (λ c low high. h c (omega arith) (omega arith)))

pub from_to_at_most_once : (c a n : ℕ) → occurs c (from_to a n) ≤ 1
from_to_at_most_once c a n =
    elim (cases_eq (occurs c (from_to a n)) 0) [
      | inl e ↦ omega arith
      | inr ne ↦ let r = from_to_bounds c a n (omega arith) in let e = occurs_from_to c a n r.0 r.1 in omega arith
    ]

one_over : (a m : ℕ) → (a + 1) + m ≡ a + suc m
one_over a m = omega arith

pub from_to_append : (a m n : ℕ) → from_to a (m + n) ≡ from_to a m ++ from_to (a + m) n
from_to_append a zero n = rw (zero-add, add-zero)
from_to_append a (suc m) n = rw suc-add (ap (λ l. a ∷ l) (from_to_append (a + 1) m n ∙ ap (λ k. from_to (a + 1) m ++ from_to k n) (one_over a m)))

-- one number more
pub from_to_push : (a n : ℕ) → from_to a (n + 1) ≡ from_to a n ++ ((a + n) ∷ [])
from_to_push a n = from_to_append a n 1

-- where lists joined hold the numbers from a on, n of them, each part lies between the ends
pub parts_between : {X : Type 0} (f : X → List ℕ) (P : ℕ → Type 0) (a n : ℕ) (xs : List X) → ((c : ℕ) → a ≤ c → c < a + n → P c) → ((c : ℕ) → occurs c (flat_map f xs) ≡ occurs c (from_to a n)) → Every (λ x. Every P (f x)) xs
parts_between {X} f P a n xs between same = in_every (λ x. Every P (f x)) xs (λ x l. in_every P (f x) (λ c m. at x l c m))
  where
    at : (x : X) → In x xs → (c : ℕ) → In c (f x) → P c
    at x l c m =
        let p = every_in (λ y. occurs c (f y) ≤ occurs c (flat_map f xs)) x xs (occurs_part f c xs) l in
        let q = occurs_in c (f x) m in
        let r = from_to_bounds c a n (omega (arith, same c)) in
        between c r.0 r.1
