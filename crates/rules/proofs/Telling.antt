-- Tests that tell whether a statement holds, and the two tests over lists that counting makes.
use Rattle.std.proofs.Common.{◌≡◌, Bool, true, false, cond, ◌&&◌, List, [], ◌∷◌, Some, None, Ordering, sym, refl, ap, ◌∙◌, subst}
use Rattle.std.proofs.lemmas.Bool.{true≢false, false≢true}
use Rattle.rules.specs.Rows.In.{here, later}
use Rattle.order.specs.Order.{OrderLaws, same, below, above}
use Rattle.rules.specs.Rows.{Row, In, Steps, NoTwoDiffer, NeverFall, AlwaysRise}
use Rattle.rules.specs.Claims.{some?}
use Rattle.rules.specs.Truth.{Tells}
use Rattle.rules.specs.Counting.{same_row, all_same, in_steps}
use Rattle.order.proofs.Orders.{same_is, same_of}

-- a test from what it gives when passed and when failed
pub tells_by : {P : Type 0} (b : Bool) → (b ≡ true → P) → (P → b ≡ true) → Tells P b
tells_by true to from = to refl
tells_by false to from = λ p. false≢true (from p)

pub tells_true : (b : Bool) → Tells (b ≡ true) b
tells_true b = tells_by b (λ e. e) (λ e. e)

pub tells_false : (b : Bool) → Tells (b ≡ false) (cond b false true)
tells_false true = true≢false
tells_false false = refl

-- two tests, one after the other, of a statement that has two parts
pub tells_both : {P Q R : Type 0} (a b : Bool) → Tells P a → Tells Q b → (P → Q → R) → (R → P) → (R → Q) → Tells R (a && b)
tells_both true true p q join left right = join p q
tells_both true false p q join left right = λ r. q (right r)
tells_both false b p q join left right = λ r. p (left r)

-- each step passes the test
pub steps_told : {V : Type 0} (R : V → V → Type 0) (ok : V → V → Bool) → ((x y : V) → Tells (R x y) (ok x y)) → (vs : List V) → Tells (Steps R vs) (in_steps ok vs)
steps_told R ok each [] = tt
steps_told R ok each (x ∷ []) = tt
steps_told R ok each (x ∷ y ∷ vs) =
    tells_both (ok x y) (in_steps ok (y ∷ vs)) (each x y) (steps_told R ok each (y ∷ vs)) (λ p q. (p, q)) (λ r. r.0) (λ r. r.1)

module _ {V : Type 0} (order : V → V → Ordering) where
  pub sorted_told : (vs : List V) → Tells (NeverFall order vs) (in_steps (λ x y. cond (above order x y) false true) vs)
  sorted_told = steps_told (λ x y. above order x y ≡ false) (λ x y. cond (above order x y) false true) (λ x y. tells_false (above order x y))

  pub strictly_told : (vs : List V) → Tells (AlwaysRise order vs) (in_steps (below order) vs)
  strictly_told = steps_told (λ x y. below order x y ≡ true) (below order) (λ x y. tells_true (below order x y))

-- no two rows differ
in_one : {X : Type 0} {x r : X} → In x (r ∷ []) → x ≡ r
in_one here = refl
in_one (later i) = elim i [ ]

-- a row equal to the next adds nothing to what stands in the list
in_rest : {X : Type 0} {x r s : X} {rows : List X} → r ≡ s → In x (r ∷ s ∷ rows) → In x (s ∷ rows)
in_rest {s = s} {rows = rows} e here = subst (λ v. In v (s ∷ rows)) (sym e) here
in_rest e (later i) = i

module _ {V : Type 0} (order : V → V → Ordering) (laws : OrderLaws order) where
  pub same_of_some : (x y : V) → ◌≡◌ {A = Row V} (Some x) (Some y) → same order x y ≡ true
  same_of_some x y e = same_of order laws x y (cc)

  same_row_told : (r s : Row V) → Tells (r ≡ s) (same_row order r s)
  same_row_told None None = refl
  same_row_told None (Some y) = λ e. false≢true (ap some? e)
  same_row_told (Some x) None = λ e. true≢false (ap some? e)
  same_row_told (Some x) (Some y) = tells_by (same order x y) (λ e. ap Some (same_is order laws x y e)) (λ e. same_of_some x y e)

  pub all_same_told : (rows : List (Row V)) → Tells (NoTwoDiffer rows) (all_same order rows)
  all_same_told [] = λ x y i j. elim i [ ]
  all_same_told (r ∷ []) = λ x y i j. in_one i ∙ sym (in_one j)
  all_same_told (r ∷ s ∷ rows) =
      tells_both (same_row order r s) (all_same order (s ∷ rows)) (same_row_told r s) (all_same_told (s ∷ rows))
      (λ e h x y i j. h x y (in_rest e i) (in_rest e j))
      (λ h. h r s here (later here))
      (λ h x y i j. h x y (later i) (later j))
