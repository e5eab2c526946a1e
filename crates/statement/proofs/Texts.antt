-- A text that is parted at the first of one byte: what `split_once` gives.
use Rattle.std.proofs.Common.{◌≡◌, ℕ, ◌<◌, List, ◌∷◌, ◌++◌, length, Some, None, subst, arith, length-append, Bor}
use lib.Seq.{get_or-append_seam}
use Rattle.std.proofs.lemmas.Str.Pattern.{IsSplitOnceResult, split_after, split_parts}
use Rattle.statement.specs.Parting.{Lacks, Parted}

module _ {R : Type 0} (byte : ℕ) (ascii : byte < 128) (none : R → Type 0) (parts : List ℕ → List ℕ → R → Type 0) (bs : List ℕ) (r : R) where
  -- a text with the byte between two parts
  has_byte : (xs ys : List ℕ) → bs ≡ xs ++ (byte ∷ ys) → Lacks byte bs → ⊥
  has_byte xs ys e lacks =
      subst (Lacks byte) e lacks (length xs) (simp length-append (omega arith)) (get_or-append_seam xs byte ys 0)

  -- a text that is not cut has none
  pub reads_whole : IsSplitOnceResult byte bs None → none r → Parted byte none parts bs r
  reads_whole cut p =
      let lacks = split_parts byte bs None cut ascii in
      record { whole = λ _. p; parted = λ xs ys e l. absurd (has_byte xs ys e lacks) }

  module _ (before behind : Bor (List ℕ)) (cut : IsSplitOnceResult byte bs (Some (before, behind))) where
    pub reads_parted : parts before.now behind.now r → Parted byte none parts bs r
    reads_parted p =
        let cuts = split_parts byte bs (Some (before, behind)) cut ascii in
        record {
          whole = λ lacks. absurd (has_byte before.now behind.now cuts.0 lacks);
          parted =
              λ us vs d lacks.
              let same = split_after byte bs us vs (Some (before, behind)) cut ascii d lacks in
              subst (λ t. parts t vs r) same.0 (subst (λ t. parts before.now t r) same.1 p);
        }
