-- How a claim is read: `{empty}` as an absent one, a text behind `~` as an inexact one, and any other as an exact one.
use Rattle.std.specs.Prelude.{◌≡◌, ℕ, List, ◌∷◌, Ok, codes, Result, ◌≢◌}
use Rattle.precision.specs.declared.precision.Precision.{Precision}
use Rattle.precision.specs.declared.precision.Precision.TheVariants.{Exact, Inexact, Absent}
use Rattle.precision.specs.Claims.{transposed}

module _ {A E : Type 0} (reads : List ℕ → Result A E → Type 0) where
  -- the claim of what is read from the text, or the error
  abbrev pub ReadsAs : (Result A E → Precision (Result A E)) → List ℕ → Result (Precision A) E → Type 0
  ReadsAs claim bs r = (q : Result A E) × reads bs q × (r ≡ transposed (claim q))

  -- 126 is `~`
  pub record ReadsClaim (bs : List ℕ) (r : Result (Precision A) E) : Type 0 where
    pub absent : bs ≡ codes "{empty}" → r ≡ Ok Absent
    pub inexact : (rest : List ℕ) → bs ≡ 126 ∷ rest → ReadsAs Inexact rest r
    pub exact : (bs ≡ codes "{empty}" → ⊥) → ((rest : List ℕ) → bs ≢ 126 ∷ rest) → ReadsAs Exact bs r
