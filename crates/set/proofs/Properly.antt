-- What every set has: each statistic at most once, each claim one that a set takes. And what leaving entries out keeps.
use Rattle.std.proofs.Common.{◌≡◌, Bool, List, sym, subst}
use Rattle.stat.specs.declared.Stat.{Stat}
use Rattle.listing.specs.Listed.{listed}
use Rattle.rules.specs.Column.{Column}
use Rattle.rules.specs.Rows.{Row}
use Rattle.rules.specs.Truth.{Holds, AllHold}
use Rattle.rules.specs.Sets.{Entries, Proper, without, retained}
use Rattle.rules.proofs.Sets.{every_without, every_retained}
use Rattle.claims.proofs.Views.{shown_proper}
use Rattle.set.specs.declared.stats_set.StatsSet.{StatsSet}
use Rattle.set.specs.Viewed.{entries}

pub set_proper : {V S : Type 0} (sums : Bool) (s : StatsSet V S) → Proper sums (entries sums s)
set_proper sums s = shown_proper sums s.claims (listed s.order) (s.once, s.present)

-- entries that are left of true ones are true
module _ {V S : Type 0} (k : Column V S) (es fs : Entries V S) where
  pub cleared_true : (s : Stat) → fs ≡ without es s → (rows : List (Row V)) → AllHold k rows es → AllHold k rows fs
  cleared_true s e rows h = subst (AllHold k rows) (sym e) (every_without (Holds k rows) es s h)

  pub retained_true : (keep : Stat → Bool) → fs ≡ retained keep es → (rows : List (Row V)) → AllHold k rows es → AllHold k rows fs
  retained_true keep e rows h = subst (AllHold k rows) (sym e) (every_retained (Holds k rows) keep es h)
