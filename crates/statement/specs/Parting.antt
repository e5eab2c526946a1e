-- A text that is parted at the first of one byte.
use Rattle.std.specs.Prelude.{◌≡◌, ℕ, ◌<◌, List, ◌∷◌, ◌++◌, length, ◌≢◌, slice_index}

abbrev pub Lacks : ℕ → List ℕ → Type 0
Lacks byte bs = (i : ℕ) → i < length bs → slice_index bs i ≢ byte

-- what is said of r where the text has no such byte, and where it has, by what stands before the first and behind it
pub record Parted {R : Type 0} (byte : ℕ) (none : R → Type 0) (parts : List ℕ → List ℕ → R → Type 0) (bs : List ℕ) (r : R) : Type 0 where
  pub whole : Lacks byte bs → none r
  pub parted : (before behind : List ℕ) → bs ≡ before ++ (byte ∷ behind) → Lacks byte before → parts before behind r
