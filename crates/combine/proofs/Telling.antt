-- Statements told place by place, and combined one after another.
use Rattle.std.proofs.Common.{◌≡◌, ℕ, zero, suc, ◌+◌, ◌<◌, ◌≤◌, Bool, true, false, cond, not, List, [], ◌∷◌, length, drop, Some, None, Option, sym, refl, ap, ◌∙◌, subst, arith}
use Rattle.std.proofs.lemmas.List.{drop_all}
use Rattle.std.proofs.lemmas.Bool.{false≢true}
use Rattle.std.specs.List.{slice_get}
use Rattle.precision.specs.declared.precision.Precision.TheVariants.{Exact, Inexact, Absent}
use Rattle.precision.specs.Claims.{is_absent}
use Rattle.stat.specs.declared.Stat.{Stat}
use Rattle.stat.specs.Stats.{same_stat}
use Rattle.statement.specs.declared.Statement.{Statement}
use Rattle.rules.specs.Column.{Column, ColumnLaws}
use Rattle.rules.specs.Claims.{settable, may_set}
use Rattle.statement.specs.Kinds.{Claim}
use Rattle.rules.specs.Truth.{AllHold}
use Rattle.rules.specs.Sets.{Entries, got, has, put, AllSettable, Proper}
use Rattle.rules.specs.Combining.{intersected, joined, combined, against}
use Rattle.rules.proofs.Combining.{combined_holds}
use Rattle.rules.proofs.Claims.{InSome}
use Rattle.rules.proofs.Merges.{may_taken}
use Rattle.rules.proofs.Taking.{honest, joined_settable}
use Rattle.refusal.specs.Refusals.{Declined}
use Rattle.combine.specs.Combined.{Combines, contradicted}

-- the statement at a place begins what is told from there on
drop_nth : {X : Type 0} (xs : List X) (i : ℕ) (x : X) → Some x ≡ slice_get xs i → drop i xs ≡ x ∷ drop (i + 1) xs
drop_nth [] i x e = let z : ◌≡◌ {A = ℕ} 0 1 = cc in absurd (omega arith)
drop_nth (y ∷ ys) zero x e = let h : x ≡ y = cc in ap (λ v. v ∷ ys) (sym h)
drop_nth (y ∷ ys) (suc i) x e = drop_nth ys i x e ∙ ap (λ n. x ∷ drop n (y ∷ ys)) (sym (one_more i))
  where
    one_more : (n : ℕ) → suc n + 1 ≡ suc (n + 1)
    one_more n = omega arith

pub nth_past : {X : Type 0} (xs : List X) (i : ℕ) → None ≡ slice_get xs i → i < length xs → ⊥
nth_past [] i e h = omega arith
nth_past (y ∷ ys) zero e h = let z : ◌≡◌ {A = ℕ} 0 1 = cc in omega arith
nth_past (y ∷ ys) (suc i) e h = nth_past ys i e (omega arith)

-- each that is told is one that a set takes
pub told_settable : {V S : Type 0} (sums : Bool) (told : List (Statement V S)) (i : ℕ) (s : Statement V S) → AllSettable sums told → Some s ≡ slice_get told i → settable sums s.stat s.claim ≡ true
told_settable sums [] i s h e = let z : ◌≡◌ {A = ℕ} 0 1 = cc in absurd (omega arith)
told_settable sums (t ∷ ts) zero s h e = let d : s ≡ t = cc in subst (λ r. settable sums r.stat r.claim ≡ true) (sym d) h.0
told_settable sums (t ∷ ts) (suc i) s h e = told_settable sums ts i s h.1 e

-- a set tells a claim of just the statistics that it has
settable_there : {V S : Type 0} (sums : Bool) (s : Stat) (x : Claim V S) → settable sums s x ≡ true → is_absent x ≡ false
settable_there sums s (Exact v) h = refl
settable_there sums s (Inexact v) h = refl
settable_there sums s Absent h = absurd (false≢true h)

pub has_got : {V S : Type 0} (sums : Bool) (es : Entries V S) (s : Stat) → AllSettable sums es → has es s ≡ not (is_absent (got es s))
has_got sums [] s h = refl
has_got sums (e ∷ es) s h = go (same_stat s e.stat) (has_got sums es s h.1)
  where
    go : (b : Bool) → has es s ≡ not (is_absent (got es s)) → cond b true (has es s) ≡ not (is_absent (cond b e.claim (got es s)))
    go true ih = sym (ap not (settable_there sums e.stat e.claim h.0))
    go false ih = ih

-- One statement after another: T is told in all, e at first, and es after the first i of them.
module _ {V S : Type 0} (k : Column V S) (T : List (Statement V S)) (e : Entries V S) where
  abbrev pub Stands : ℕ → Entries V S → Type 0
  Stands i es = (combined k T e ≡ combined k (drop i T) es) × (against k T e ≡ against k (drop i T) es)

  -- what the rule gives of the claim that is told of the statistic
  abbrev pub Gives : Entries V S → Statement V S → Option (Claim V S) → Type 0
  Gives es s o = o ≡ cond (is_absent (got es s.stat)) (Some s.claim) (intersected k s.stat (got es s.stat) s.claim)

  joins : (es : Entries V S) (s : Statement V S) (o : Option (Claim V S)) → AllSettable k.sums.has_sums es → Gives es s o → o ≡ joined k es s
  joins es s o h g = g ∙ turned (is_absent (got es s.stat)) ∙ ap (λ b. cond b (intersected k s.stat (got es s.stat) s.claim) (Some s.claim)) (sym (has_got k.sums.has_sums es s.stat h))
    where
      turned : (b : Bool) → cond b (Some s.claim) (intersected k s.stat (got es s.stat) s.claim) ≡ cond (not b) (intersected k s.stat (got es s.stat) s.claim) (Some s.claim)
      turned true = refl
      turned false = refl

  module _ (i : ℕ) (es : Entries V S) (s : Statement V S) (all : AllSettable k.sums.has_sums es) (stands : Stands i es) (told : Some s ≡ slice_get T i) where
    next : drop i T ≡ s ∷ drop (i + 1) T
    next = drop_nth T i s told

    pub goes_on : (c : Claim V S) (fs : Entries V S) → Gives es s (Some c) → fs ≡ put es s.stat c → Stands (i + 1) fs
    goes_on c fs g f =
        let j : joined k es s ≡ Some c = sym (joins es s (Some c) all g) in (
          stands.0 ∙ ap (λ l. combined k l es) next ∙ ap (λ o. elim o [ Some x ↦ combined k (drop (i + 1) T) (put es s.stat x) | None ↦ es ]) j ∙ ap (combined k (drop (i + 1) T)) (sym f),
          stands.1 ∙ ap (λ l. against k l es) next ∙ ap (λ o. elim o [ Some x ↦ against k (drop (i + 1) T) (put es s.stat x) | None ↦ Some s.stat ]) j ∙ ap (against k (drop (i + 1) T)) (sym f),
        )

    -- the claim that is given may be set
    pub given_may : settable k.sums.has_sums s.stat s.claim ≡ true → (c : Claim V S) → Gives es s (Some c) → may_set k.sums.has_sums s.stat c ≡ true
    given_may t c g =
        let there = subst (InSome (λ x. settable k.sums.has_sums s.stat x ≡ true)) (sym (joins es s (Some c) all g)) (joined_settable k es s all t) in
        may_taken k.sums.has_sums s.stat c (λ _. there)

    pub stops : Gives es s None → (es ≡ combined k T e) × (contradicted (Some s.stat) ≡ contradicted (against k T e))
    stops g =
        let j : joined k es s ≡ None = sym (joins es s None all g) in (
          sym (stands.0 ∙ ap (λ l. combined k l es) next ∙ ap (λ o. elim o [ Some x ↦ combined k (drop (i + 1) T) (put es s.stat x) | None ↦ es ]) j),
          ap contradicted (sym (stands.1 ∙ ap (λ l. against k l es) next ∙ ap (λ o. elim o [ Some x ↦ against k (drop (i + 1) T) (put es s.stat x) | None ↦ Some s.stat ]) j)),
        )

  pub ends : (i : ℕ) (es : Entries V S) → Stands i es → length T ≤ i → (es ≡ combined k T e) × (None ≡ contradicted (against k T e))
  ends i es stands h = (sym (stands.0 ∙ ap (λ l. combined k l es) (drop_all i T h)), sym (ap contradicted (stands.1 ∙ ap (λ l. against k l es) (drop_all i T h))))

  -- what combining owes
  pub combine_owed : ColumnLaws k → Proper k.sums.has_sums T → Proper k.sums.has_sums e → (z : Entries V S) (r : Option Declined) → z ≡ combined k T e → r ≡ contradicted (against k T e) → Combines k T e z r
  combine_owed laws told mine z r v a =
      record {
        value = v;
        answer = a;
        truth = λ rows p q. subst (AllHold k rows) (sym v) (combined_holds k rows T e p q);
        honest = λ rows p q. let t = honest k laws rows T e told.settable mine.settable q p in (t.0, a ∙ ap contradicted t.1);
      }
