-- Rows after rows: what the words for rows say of a list made of two.
use Rattle.std.proofs.Common.{◌≡◌, ℕ, ◌+◌, ◌*◌, List, [], ◌∷◌, ◌++◌, length, ℤ, ◌+ℤ◌, Some, None, sym, refl, ap, ◌∙◌, inl, inr, add-mul, arith, length-append}
use lib.IntN.{+ℤ_idl, +ℤ_assoc}
use Rattle.rules.specs.Rows.{Row, In, here, later, Every, Steps, elements, nulls, number_total, NoTwoDiffer}
use Rattle.rules.proofs.Lists.{in_left, in_right, in_either}

-- a relation that holds along each list and from every element of the first to every one of the second holds along both
pub steps_join : {X : Type 0} (R : X → X → Type 0) (xs ys : List X) → Steps R xs → Steps R ys → Every (λ x. Every (λ y. R x y) ys) xs → Steps R (xs ++ ys)
steps_join R [] ys h k across = k
steps_join R (x ∷ []) [] h k across = tt
steps_join R (x ∷ []) (y ∷ ys) h k across = (across.0.0, k)
steps_join R (x ∷ z ∷ xs) ys h k across = (h.0, steps_join R (z ∷ xs) ys h.1 k across.1)

-- the elements, the nulls, the totals and the sizes of rows after rows
pub elements_join : {V : Type 0} (a b : List (Row V)) → elements (a ++ b) ≡ elements a ++ elements b
elements_join [] b = refl
elements_join (None ∷ a) b = elements_join a b
elements_join (Some v ∷ a) b = ap (λ vs. v ∷ vs) (elements_join a b)

pub nulls_join : {V : Type 0} (a b : List (Row V)) → nulls (a ++ b) ≡ nulls a + nulls b
nulls_join [] b = omega arith
nulls_join (None ∷ a) b = omega (arith, nulls_join a b)
nulls_join (Some v ∷ a) b = nulls_join a b

pub total_join : {V : Type 0} (number : V → ℤ) (xs ys : List V) → number_total number (xs ++ ys) ≡ number_total number xs +ℤ number_total number ys
total_join number [] ys = sym (+ℤ_idl (number_total number ys))
total_join number (x ∷ xs) ys = ap (λ n. number x +ℤ n) (total_join number xs ys) ∙ sym (+ℤ_assoc (number x) (number_total number xs) (number_total number ys))

pub size_join : {X : Type 0} (width : ℕ) (xs ys : List X) → length (xs ++ ys) * width ≡ length xs * width + length ys * width
size_join width xs ys = ap (λ n. n * width) (length-append xs ys) ∙ add-mul (length xs) (length ys) width

-- an element present is a row
pub in_rows : {V : Type 0} (v : V) (rows : List (Row V)) → In v (elements rows) → In (Some v) rows
in_rows v [] i = elim i [ ]
in_rows v (None ∷ rows) i = later (in_rows v rows i)
in_rows v (Some w ∷ rows) here = here
in_rows v (Some w ∷ rows) (later i) = later (in_rows v rows i)

-- if no two of both lists differ, no two of either do
pub even_left : {X : Type 0} (xs ys : List X) → NoTwoDiffer (xs ++ ys) → NoTwoDiffer xs
even_left xs ys h x y i j = h x y (in_left ys i) (in_left ys j)

pub even_right : {X : Type 0} (xs ys : List X) → NoTwoDiffer (xs ++ ys) → NoTwoDiffer ys
even_right xs ys h x y i j = h x y (in_right xs i) (in_right xs j)

-- two even lists that share an element are even together
pub even_join : {X : Type 0} (z : X) (xs ys : List X) → NoTwoDiffer xs → NoTwoDiffer ys → In z xs → In z ys → NoTwoDiffer (xs ++ ys)
even_join z xs ys h k i j x y ix iy = same_as x ix ∙ sym (same_as y iy)
  where
    same_as : (w : _) → In w (xs ++ ys) → w ≡ z
    same_as w iw = elim (in_either w xs ys iw) [ inl l ↦ h w z l i | inr r ↦ k w z r j ]
