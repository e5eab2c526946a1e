-- What a merge of two sets owes.
use Rattle.std.specs.Prelude.{◌≡◌, Bool, List, ◌++◌}
use Rattle.rules.specs.Column.{Column}
use Rattle.rules.specs.Rows.{Row}
use Rattle.rules.specs.Truth.{AllHold}
use Rattle.rules.specs.Sets.{Entries}
use Rattle.rules.specs.Merging.{merged}

-- x with y merged into it gives z: the rules say which entries, and if x is true of some rows and y of others, z is true of the first followed by the second
pub record Merges {V S : Type 0} (k : Column V S) (in_order : Bool) (x y z : Entries V S) : Type 0 where
  pub value : z ≡ merged k in_order x y
  pub truth : (a b : List (Row V)) → AllHold k a x → AllHold k b y → AllHold k (a ++ b) z
