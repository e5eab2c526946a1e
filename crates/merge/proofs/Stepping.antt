-- A merge, statistic after statistic.
use Rattle.std.proofs.Common.{◌≡◌, ℕ, ◌+◌, ◌<◌, ◌≤◌, Bool, true, cond, List, ◌++◌, length, get_or, drop, sym, ap, ◌∙◌, subst}
use Rattle.std.proofs.lemmas.List.{at_drop_more, drop_all}
use Rattle.std.proofs.lemmas.Bool.{cond-true}
use Rattle.stat.specs.declared.Stat.{Stat}
use Rattle.rules.specs.Claims.{may_set}
use Rattle.statement.specs.Kinds.{Claim}
use Rattle.rules.specs.Column.{Column, ColumnLaws}
use Rattle.rules.specs.Truth.{AllHold}
use Rattle.rules.specs.Sets.{Entries, put, AllSettable}
use Rattle.rules.specs.Merging.{rule, merged_over, merged}
use Rattle.rules.proofs.Merges.{may_taken, rule_taken, merged_true}
use Rattle.merge.specs.Merged.{Merges}

-- a claim that may be set was put in
pub set_done : {V S : Type 0} (sums : Bool) (s : Stat) (es fs : Entries V S) (x y : Claim V S) → x ≡ y → may_set sums s y ≡ true → fs ≡ cond (may_set sums s x) (put es s x) es → fs ≡ put es s y
set_done sums s es fs x y e m f = f ∙ ap (λ c. cond (may_set sums s c) (put es s c) es) e ∙ cond-true (may_set sums s y) (put es s y) es m

-- One statistic more is merged: what is left of the nine then takes the entries to where they are taken in all.
module _ {V S : Type 0} (k : Column V S) (in_order : Bool) (b : Entries V S) where
  pub merged_more : (ss : List Stat) (i : ℕ) (d : Stat) (x : Claim V S) (es fs z : Entries V S) → i < length ss → AllSettable k.sums.has_sums es → merged_over k in_order b (drop i ss) es ≡ z → x ≡ rule k in_order es b (get_or ss i d) → fs ≡ cond (may_set k.sums.has_sums (get_or ss i d) x) (put es (get_or ss i d) x) es → merged_over k in_order b (drop (i + 1) ss) fs ≡ z
  merged_more ss i d x es fs z below settable was e after =
      let s = get_or ss i d in
      let done = set_done k.sums.has_sums s es fs x (rule k in_order es b s) e (may_taken k.sums.has_sums s (rule k in_order es b s) (rule_taken k in_order es b settable s)) after in
      ap (merged_over k in_order b (drop (i + 1) ss)) done ∙ sym (at_drop_more (λ l. merged_over k in_order b l es) ss i d below) ∙ was

  pub merged_done : (ss : List Stat) (i : ℕ) (es z : Entries V S) → length ss ≤ i → merged_over k in_order b (drop i ss) es ≡ z → es ≡ z
  merged_done ss i es z past was = sym (ap (λ l. merged_over k in_order b l es) (drop_all i ss past)) ∙ was

-- what a merge owes, from the statistics merged one by one
pub merge_owed : {V S : Type 0} (k : Column V S) → ColumnLaws k → (in_order : Bool) (x y z : Entries V S) → AllSettable k.sums.has_sums x → z ≡ merged k in_order x y → Merges k in_order x y z
merge_owed k laws in_order x y z settable e =
    record { value = e; truth = λ a b p q. subst (AllHold k (a ++ b)) (sym e) (merged_true k laws in_order a b x y settable p q) }
