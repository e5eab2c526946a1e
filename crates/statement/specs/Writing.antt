-- How values and statements are written.
use Rattle.std.specs.Prelude.{ℕ, cond, List, Some, codes, decimal, Option}
use Rattle.std.specs.Fmt.{option_append}
use Rattle.precision.specs.Claims.{text_of}
use Rattle.stat.specs.Stats.{stat_name}
use Rattle.statement.specs.declared.StatValue.{StatValue}
use Rattle.statement.specs.declared.StatValue.TheVariants.{Flag, Element, Sum, Count}
use Rattle.statement.specs.declared.Statement.{Statement}
use Rattle.statement.specs.declared.text.ParseStatementError.{ParseStatementError}
use Rattle.statement.specs.declared.text.ParseStatementError.TheVariants.{NoSign, NoStat, NoClaim}

module _ {V S : Type 0} (element : V → Option (List ℕ)) (sum : S → Option (List ℕ)) where
  -- a flag as `true` or `false`, a count in decimal, elements and sums as they are written by themselves
  abbrev pub value_text : StatValue V S → Option (List ℕ)
  value_text (Flag b) = Some (cond b (codes "true") (codes "false"))
  value_text (Element v) = element v
  value_text (Sum s) = sum s
  value_text (Count n) = Some (decimal n)

  -- a name, `=`, and what is claimed: `v`, `~v` or `{empty}`
  abbrev pub statement_text : Statement V S → Option (List ℕ)
  statement_text s =
      option_append (Some (stat_name s.stat)) (option_append (Some (codes "=")) (text_of value_text s.claim))

-- why a text is no statement, as it is told
abbrev pub unread_text : ParseStatementError → List ℕ
unread_text NoSign = codes "a statement is NAME=CLAIM"
unread_text NoStat = codes "there is no statistic of that name"
unread_text NoClaim = codes "the claim has no value of the statistic's kind"
