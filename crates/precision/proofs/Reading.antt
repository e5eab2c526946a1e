-- A claim that is read from its text.
use Rattle.std.proofs.Common.{◌≡◌, ℕ, List, ◌∷◌, codes, Result, subst, arith}
use Rattle.precision.specs.declared.precision.Precision.{Precision}
use Rattle.precision.specs.declared.precision.Precision.TheVariants.{Exact, Inexact}
use Rattle.precision.specs.Claims.{transposed}
use Rattle.precision.specs.Texts.{ReadsClaim}

-- `~` does not begin `{empty}`
tilde_not_empty : (bs rest : List ℕ) → bs ≡ 126 ∷ rest → bs ≡ codes "{empty}" → ⊥
tilde_not_empty bs rest e d = let z : ◌≡◌ {A = ℕ} 126 123 = cc in omega arith

rest_same : (bs x y : List ℕ) → bs ≡ 126 ∷ x → bs ≡ 126 ∷ y → x ≡ y
rest_same bs x y e d = cc

module _ {A E : Type 0} (reads : List ℕ → Result A E → Type 0) (bs : List ℕ) (q : Result A E) (r : Result (Precision A) E) where
  pub reads_inexact : (rest : List ℕ) → bs ≡ 126 ∷ rest → reads rest q → r ≡ transposed (Inexact q) → ReadsClaim reads bs r
  reads_inexact rest e p h =
      record {
        absent = λ d. absurd (tilde_not_empty bs rest e d);
        inexact = λ other d. (q, subst (λ t. reads t q) (rest_same bs rest other e d) p, h);
        exact = λ _ none. absurd (none rest e);
      }

  pub reads_exact : (bs ≡ codes "{empty}" → ⊥) → ((rest : List ℕ) → bs ≡ 126 ∷ rest → ⊥) → reads bs q → r ≡ transposed (Exact q) → ReadsClaim reads bs r
  reads_exact some none p h = record { absent = λ d. absurd (some d); inexact = λ rest d. absurd (none rest d); exact = λ _ _. (q, p, h) }
