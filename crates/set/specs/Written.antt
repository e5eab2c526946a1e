-- How a set is written.
use Rattle.std.specs.Prelude.{ℕ, List, [], ◌∷◌, Some, codes, Option}
use Rattle.std.specs.Fmt.{option_append}
use Rattle.statement.specs.Writing.{statement_text}
use Rattle.rules.specs.Sets.{Entries}

module _ {V S : Type 0} (element : V → Option (List ℕ)) (sum : S → Option (List ℕ)) where
  -- each entry with a blank before it
  abbrev pub others_text : Entries V S → Option (List ℕ)
  others_text [] = Some []
  others_text (e ∷ es) = option_append (Some (codes " ")) (option_append (statement_text element sum e) (others_text es))

  -- the entries in order, parted by a blank; `-` where there are none
  abbrev pub entries_text : Entries V S → Option (List ℕ)
  entries_text [] = Some (codes "-")
  entries_text (e ∷ es) = option_append (statement_text element sum e) (others_text es)
