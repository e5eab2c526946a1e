-- Membership, and what holds of every element of a list.
use Rattle.std.proofs.Common.{◌⊎◌, List, [], ◌∷◌, ◌++◌, inl, inr}
use Rattle.rules.specs.Rows.{In, here, later, Every}

pub in_left : {X : Type 0} {x : X} {xs : List X} (ys : List X) → In x xs → In x (xs ++ ys)
in_left ys here = here
in_left ys (later i) = later (in_left ys i)

pub in_right : {X : Type 0} {x : X} (xs : List X) {ys : List X} → In x ys → In x (xs ++ ys)
in_right [] i = i
in_right (y ∷ xs) i = later (in_right xs i)

pub in_either : {X : Type 0} (x : X) (xs ys : List X) → In x (xs ++ ys) → In x xs ⊎ In x ys
in_either x [] ys i = inr i
in_either x (y ∷ xs) ys here = inl here
in_either x (y ∷ xs) ys (later i) = elim (in_either x xs ys i) [ inl l ↦ inl (later l) | inr r ↦ inr r ]

-- what holds of every element holds of each that stands in the list, and the other way round
pub every_in : {X : Type 0} (P : X → Type 0) (x : X) (xs : List X) → Every P xs → In x xs → P x
every_in P x [] h i = elim i [ ]
every_in P x (y ∷ ys) h here = h.0
every_in P x (y ∷ ys) h (later i) = every_in P x ys h.1 i

pub in_every : {X : Type 0} (P : X → Type 0) (xs : List X) → ((x : X) → In x xs → P x) → Every P xs
in_every P [] h = tt
in_every P (x ∷ xs) h = (h x here, in_every P xs (λ y i. h y (later i)))

pub every_both : {X : Type 0} (P Q R : X → Type 0) (xs : List X) → ((x : X) → P x → Q x → R x) → Every P xs → Every Q xs → Every R xs
every_both P Q R [] f p q = tt
every_both P Q R (x ∷ xs) f p q = (f x p.0 q.0, every_both P Q R xs f p.1 q.1)

pub every_front : {X : Type 0} (P : X → Type 0) (xs ys : List X) → Every P (xs ++ ys) → Every P xs
every_front P [] ys h = tt
every_front P (x ∷ xs) ys h = (h.0, every_front P xs ys h.1)
