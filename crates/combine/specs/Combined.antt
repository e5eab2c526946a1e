-- What combining a provider's statements into a set owes.
use Rattle.std.specs.Prelude.{◌≡◌, List, Some, None, Option}
use Rattle.precision.specs.declared.precision.Precision.{Precision}
use Rattle.precision.specs.Claims.{mapped}
use Rattle.stat.specs.declared.Stat.{Stat}
use Rattle.stat.specs.Stats.{stat_number}
use Rattle.refusal.specs.Refusals.{Declined, declined}
use Rattle.statement.specs.declared.Statement.{Statement}
use Rattle.rules.specs.Column.{Column}
use Rattle.rules.specs.Rows.{Row}
use Rattle.rules.specs.Truth.{AllHold}
use Rattle.rules.specs.Sets.{Entries}
use Rattle.rules.specs.Combining.{combined, taken, against}

-- a claim of a kind as the claim of any value, where there is one
abbrev pub mapped_in : {A B : Type 0} → (A → B) → Option (Precision A) → Option (Precision B)
mapped_in f (Some c) = Some (mapped f c)
mapped_in f None = None

-- a contradiction is declined with 2 and the statistic
abbrev pub contradicted : Option Stat → Option Declined
contradicted (Some s) = declined 2 (Some (stat_number s))
contradicted None = None

-- statements told, combined into the entries x, leave the entries z and the answer r:
pub record Combines {V S : Type 0} (k : Column V S) (told : List (Statement V S)) (x z : Entries V S) (r : Option Declined) : Type 0 where
  -- statement after statement, until one contradicts what is there,
  pub value : z ≡ combined k told x
  pub answer : r ≡ contradicted (against k told x)
  -- true statements leave a true set true, contradiction or not,
  pub truth : (rows : List (Row V)) → AllHold k rows x → AllHold k rows (taken k told x) → AllHold k rows z
  -- and where the set and all that is told is true of the same rows, nothing is declined, and all goes in
  pub honest : (rows : List (Row V)) → AllHold k rows x → AllHold k rows told → (taken k told x ≡ told) × (r ≡ None)
