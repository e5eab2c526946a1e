-- A set of statistics as the list of its entries, in the order of first setting.
use Rattle.std.specs.Prelude.{◌≡◌, Bool, true, false, cond, List, [], ◌∷◌, ◌++◌}
use Rattle.stat.specs.declared.Stat.{Stat}
use Rattle.precision.specs.declared.precision.Precision.TheVariants.{Absent}
use Rattle.statement.specs.declared.Statement.{Statement}
use Rattle.rules.specs.Rows.{Every}
use Rattle.rules.specs.Claims.{settable}
use Rattle.statement.specs.Kinds.{Claim, stated}
use Rattle.stat.specs.Stats.{same_stat}
use Rattle.precision.specs.Claims.{is_absent}

abbrev pub Entries : Type 0 → Type 0 → Type 0
Entries V S = List (Statement V S)

-- those that pass the test, in their order
abbrev pub chosen : (Stat → Bool) → List Stat → List Stat
chosen test [] = []
chosen test (s ∷ ss) = cond (test s) (s ∷ chosen test ss) (chosen test ss)

module _ {V S : Type 0} where
  -- the statistics of the entries, in their order
  abbrev pub stats_of : Entries V S → List Stat
  stats_of [] = []
  stats_of (e ∷ es) = e.stat ∷ stats_of es

  -- the claim, or Absent
  abbrev pub got : Entries V S → Stat → Claim V S
  got [] s = Absent
  got (e ∷ es) s = cond (same_stat s e.stat) e.claim (got es s)

  abbrev pub has : Entries V S → Stat → Bool
  has [] s = false
  has (e ∷ es) s = cond (same_stat s e.stat) true (has es s)

  abbrev pub without : Entries V S → Stat → Entries V S
  without [] s = []
  without (e ∷ es) s = cond (same_stat s e.stat) (without es s) (e ∷ without es s)

  abbrev pub retained : (Stat → Bool) → Entries V S → Entries V S
  retained keep [] = []
  retained keep (e ∷ es) = cond (keep e.stat) (e ∷ retained keep es) (retained keep es)

  abbrev pub replaced : Entries V S → Stat → Claim V S → Entries V S
  replaced [] s c = []
  replaced (e ∷ es) s c = cond (same_stat s e.stat) (stated s c) e ∷ replaced es s c

  -- in place, or last; an Absent claim clears
  abbrev pub put : Entries V S → Stat → Claim V S → Entries V S
  put es s c = cond (is_absent c) (without es s) (cond (has es s) (replaced es s c) (es ++ (stated s c ∷ [])))

-- each statistic stands at most once
abbrev pub Apart : {V S : Type 0} → Entries V S → Type 0
Apart [] = Unit {0}
Apart (e ∷ es) = Every (λ f. same_stat e.stat f.stat ≡ false) es × Apart es

-- entries that `set` makes: each has a value of its statistic's kind
abbrev pub AllSettable : {V S : Type 0} → Bool → Entries V S → Type 0
AllSettable has_sums = Every (λ e. settable has_sums e.stat e.claim ≡ true)

-- what `set` can make, and what a provider tells
pub record Proper {V S : Type 0} (has_sums : Bool) (es : Entries V S) : Type 0 where
  pub settable : AllSettable has_sums es
  pub apart : Apart es
