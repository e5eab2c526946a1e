-- The records met from a number on by their nexts: they are the chain that begins there, and its last.
use Rattle.std.proofs.Common.{◌≡◌, ℕ, zero, suc, ◌≤◌, eqb, List, [], ◌∷◌, ◌++◌, length, refl, ap, ◌∙◌, arith}
use Rattle.std.proofs.lemmas.Bool.{eq-eqb, ne_eqb, cond-true, cond-false}
use Rattle.book.specs.Chains.{ChainFrom, walked, last_of}

pub walked_here : (next : ℕ → ℕ) (f n : ℕ) → (n ≡ 0 → ⊥) → walked next (suc f) n ≡ n ∷ walked next f (next n)
walked_here next f n ne = cond-false (eqb n 0) [] (n ∷ walked next f (next n)) (ne_eqb n 0 ne)

pub walked_none : (next : ℕ → ℕ) (f n : ℕ) → n ≡ 0 → walked next f n ≡ []
walked_none next zero n e = refl
walked_none next (suc f) n e = cond-true (eqb n 0) [] (n ∷ walked next f (next n)) (eq-eqb n 0 e)

pub walked_chain : (next : ℕ → ℕ) (f n : ℕ) (ns : List ℕ) → ChainFrom next n ns → length ns ≤ f → walked next f n ≡ ns
walked_chain next f n [] c l = walked_none next f n c
walked_chain next zero n (m ∷ ms) c l = absurd (omega arith)
walked_chain next (suc f) n (m ∷ ms) c l =
    walked_here next f n (omega (arith, c.0, c.1))
    ∙ ap (λ k. k ∷ walked next f (next k)) c.0
    ∙ ap (λ r. m ∷ r) (walked_chain next f (next m) ms c.2 (omega arith))

-- a list of some records ends with its last
pub split_last : (a : ℕ) (ns : List ℕ) → 1 ≤ length ns → (front : List ℕ) × (ns ≡ front ++ (last_of a ns ∷ []))
split_last a [] l = absurd (omega arith)
split_last a (m ∷ []) l = ([], refl)
split_last a (m ∷ k ∷ ms) l = let r = split_last m (k ∷ ms) (omega arith) in (m ∷ r.0, ap (λ t. m ∷ t) r.1)
