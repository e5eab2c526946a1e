-- Entries written one by one.
use Rattle.std.proofs.Common.{◌≡◌, ℕ, ◌+◌, ◌<◌, List, [], ◌∷◌, ◌++◌, length, get_or, take, Option, Some, None, codes, refl, sym, ap, ◌∙◌, append-nil}
use Rattle.std.proofs.lemmas.List.{take_more, map-append}
use Rattle.std.proofs.Output.{then_text_assoc}
use Rattle.std.specs.Fmt.{◌++?◌}
use Rattle.stat.specs.declared.Stat.{Stat}
use Rattle.statement.specs.declared.Statement.{Statement}
use Rattle.statement.specs.Kinds.{stated}
use Rattle.statement.specs.Writing.{statement_text}
use Rattle.rules.specs.Sets.{Entries}
use Rattle.claims.specs.declared.Claims.{Claims}
use Rattle.claims.specs.Entries.{claim_in, entries_of}
use Rattle.set.specs.Written.{others_text}

module _ {V S : Type 0} (element : V → Option (List ℕ)) (sum : S → Option (List ℕ)) where
  abbrev others : Entries V S → Option (List ℕ)
  others = others_text element sum

  abbrev other : Statement V S → Option (List ℕ)
  other e = Some (codes " ") ++? statement_text element sum e

  -- one more at the end
  others_last : (es : Entries V S) (e : Statement V S) → others es ++? other e ≡ others (es ++ (e ∷ []))
  others_last [] e = alone (statement_text element sum e)
    where
      alone : (o : Option (List ℕ)) → Some [] ++? Some (codes " ") ++? o ≡ Some (codes " ") ++? o ++? Some []
      alone None = refl
      alone (Some bs) = ap (λ l. Some (codes " " ++ l)) (sym (append-nil bs))
  others_last (x ∷ es) e =
      let text = statement_text element sum x in
      then_text_assoc (Some (codes " ")) (text ++? others es) (other e)
      ∙ ap (λ o. Some (codes " ") ++? o) (then_text_assoc text (others es) (other e) ∙ ap (λ o. text ++? o) (others_last es e))

  -- the statement of the next of a list of statistics
  pub others_more : (c : Claims V S) (ss : List Stat) (i : ℕ) (d : Stat) (e : Statement V S) → i < length ss → e ≡ stated (get_or ss i d) (claim_in c (get_or ss i d)) → others (entries_of c (take i ss)) ++? other e ≡ others (entries_of c (take (i + 1) ss))
  others_more c ss i d e h p =
      others_last (entries_of c (take i ss)) e
      ∙ ap others (ap (λ x. entries_of c (take i ss) ++ (x ∷ [])) p ∙ sym (ap (entries_of c) (take_more ss i d h) ∙ map-append _ (take i ss) (get_or ss i d ∷ [])))
