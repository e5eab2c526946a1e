-- What the two questions promise: where they say skip, none of the rows of which the claims are true matches.
use Rattle.std.specs.Prelude.{◌≡◌, ℕ, ◌≤◌, Bool, true, false, not, ◌||◌, List, [], ◌∷◌, Some, None, Option, ◌≢◌, nat_eq, refl}
use Rattle.std.proofs.Common.{sym, subst, ◌∙◌, inl, inr, arith}
use Rattle.std.proofs.lemmas.Bool.{cases_Bool, or_cases, and_left, and_right, not_from_true, eqb-true, true≢false, false≢true}
use Rattle.stat.specs.declared.Stat.TheVariants.{Max, Min, NullCount}
use Rattle.precision.specs.declared.precision.Precision.{Precision}
use Rattle.precision.specs.declared.precision.Precision.TheVariants.{Exact, Inexact, Absent}
use Rattle.precision.specs.Claims.{value_of}
use Rattle.order.specs.Order.{OrderLaws, below, above}
use Rattle.order.proofs.Orders.{above_round, below_through}
use Rattle.stat_bound.specs.Bounds.{Says}
use Rattle.rules.specs.Column.{Column}
use Rattle.rules.specs.Rows.{Row, In, here, later, Every, elements, nulls, NoneAbove, NoneBelow}
use Rattle.statement.specs.Kinds.{element_claim, count_claim}
use Rattle.rules.specs.Sets.{got}
use Rattle.rules.proofs.Lists.{every_in, in_every}
use Rattle.rules.proofs.Sets.{got_holds}
use Rattle.book.specs.Law.{Honest}
use Rattle.question.specs.Asked.{passes, in_range, out_of_range, is_null, no_nulls}

-- what a claim with a value says, exact or not, where exact says no less
pub says_either : {A : Type 0} (P Q : A → Type 0) → ((v : A) → P v → Q v) → (c : Precision A) → Says P Q c → (m : A) → value_of c ≡ Some m → Q m
says_either P Q weaker (Exact v) h m e = let s : v ≡ m = cc in subst Q s (weaker v h)
says_either P Q weaker (Inexact v) h m e = let s : v ≡ m = cc in subst Q s h
says_either P Q weaker Absent h m e = absurd (let z : ◌≡◌ {A = ℕ} 0 1 = cc in omega arith)

pub passed : {A : Type 0} (test : A → Bool) (o : Option A) → passes test o ≡ true → (x : A) × (o ≡ Some x) × (test x ≡ true)
passed test (Some x) t = (x, refl, t)
passed test None t = absurd (false≢true t)

pub in_elements : {V : Type 0} (v : V) (rows : List (Row V)) → In (Some v) rows → In v (elements rows)
in_elements v [] i = elim i [ ]
in_elements v (Some w ∷ rows) here = here
in_elements v (Some w ∷ rows) (later i) = later (in_elements v rows i)
in_elements v (None ∷ rows) (later i) = in_elements v rows i

module _ {V S : Type 0} (k : Column V S) (ordered : OrderLaws k.order) (lo hi : V) where
  outside : (v : V) → (below k.order v lo ≡ false → above k.order v hi ≢ false) → in_range k.order lo hi (Some v) ≡ false
  outside v never =
      let low = below k.order v lo in
      let high = above k.order v hi in
      elim (cases_Bool low) [
        | inl t ↦ and_left (not low) (not high) (not_from_true low t)
        | inr f ↦ elim (cases_Bool high) [ inl t ↦ and_right (not low) (not high) (not_from_true high t) | inr g ↦ absurd (never f g) ]
      ]

  -- not above is the other way round not below
  turned : (x y : V) → above k.order x y ≡ false → below k.order y x ≡ false
  turned x y f = sym (above_round k.order ordered x y) ∙ f

  crossed : (x y : V) → above k.order x y ≡ true → below k.order y x ≢ false
  crossed x y t f = true≢false (sym t ∙ above_round k.order ordered x y ∙ f)

  pub range_honest : Honest k (in_range k.order lo hi) (out_of_range k.order lo hi)
  range_honest es rows proper skip true_of = in_every (λ r. in_range k.order lo hi r ≡ false) rows each
    where
      top : Option V
      top = value_of (element_claim (got es Max))

      low : Option V
      low = value_of (element_claim (got es Min))

      above_all : (m : V) → top ≡ Some m → NoneAbove k.order m (elements rows)
      above_all m e = says_either (λ v. In v (elements rows) × NoneAbove k.order v (elements rows)) (λ v. NoneAbove k.order v (elements rows)) (λ v h. h.1) (element_claim (got es Max)) (got_holds k rows es Max true_of) m e

      below_all : (m : V) → low ≡ Some m → NoneBelow k.order m (elements rows)
      below_all m e = says_either (λ v. In v (elements rows) × NoneBelow k.order v (elements rows)) (λ v. NoneBelow k.order v (elements rows)) (λ v h. h.1) (element_claim (got es Min)) (got_holds k rows es Min true_of) m e

      no_element : (v : V) → In v (elements rows) → below k.order v lo ≡ false → above k.order v hi ≢ false
      no_element v i f g =
          elim (or_cases (above k.order lo hi) (passes (λ m. below k.order m lo) top || passes (λ m. above k.order m hi) low) skip) [
            | inl t ↦ crossed lo hi t (below_through k.order ordered hi v lo (turned v hi g) f)
            | inr u ↦ elim (or_cases (passes (λ m. below k.order m lo) top) (passes (λ m. above k.order m hi) low) u) [
              | inl t ↦
                  let p = passed (λ m. below k.order m lo) top t in
                  let a = every_in (λ x. above k.order x p.0 ≡ false) v (elements rows) (above_all p.0 p.1) i in
                  true≢false (sym p.2 ∙ below_through k.order ordered p.0 v lo (turned v p.0 a) f)
              | inr t ↦
                  let p = passed (λ m. above k.order m hi) low t in
                  let a = every_in (λ x. below k.order x p.0 ≡ false) v (elements rows) (below_all p.0 p.1) i in
                  crossed p.0 hi p.2 (below_through k.order ordered hi v p.0 (turned v hi g) a)
            ]
          ]

      each : (r : Row V) → In r rows → in_range k.order lo hi r ≡ false
      each (Some v) i = outside v (no_element v (in_elements v rows i))
      each None i = refl

no_null_rows : {V : Type 0} (rows : List (Row V)) → nulls rows ≡ 0 → Every (λ r. is_null r ≡ false) rows
no_null_rows [] e = tt
no_null_rows (Some v ∷ rows) e = (refl, no_null_rows rows e)
no_null_rows (None ∷ rows) e = absurd (omega arith)

pub null_honest : {V S : Type 0} (k : Column V S) → Honest k is_null no_nulls
null_honest k es rows proper skip true_of =
    let p = passed (λ n. nat_eq n 0) (value_of (count_claim (got es NullCount))) skip in
    let most = says_either (λ n. n ≡ nulls rows) (λ n. nulls rows ≤ n) (λ n e. omega arith) (count_claim (got es NullCount)) (got_holds k rows es NullCount true_of) p.0 p.1 in
    no_null_rows rows (omega (arith, most, eqb-true p.0 0 p.2))
