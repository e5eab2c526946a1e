-- Whether no two rows differ, told from the least and the greatest element and the number of nulls.
use Rattle.std.proofs.Common.{◌≡◌, ℕ, ◌≤◌, Bool, true, false, ◌&&◌, eqb, ◌⊎◌, List, [], ◌∷◌, Some, None, Option, Ordering, sym, refl, ap, ◌∙◌, subst, inl, inr, arith}
use Rattle.std.proofs.lemmas.Bool.{and_parts, and_from, eqb-true, eq-eqb}
use Rattle.precision.specs.declared.precision.Precision.TheVariants.{Exact, Absent}
use Rattle.order.specs.Order.{OrderLaws, below, above, same, lesser, greater}
use Rattle.order.proofs.Orders.{Strict, below_strict, above_strict, above_round, below_level, same_is}
use Rattle.rules.specs.Rows.{Row, In, here, later, elements, nulls, NoTwoDiffer}
use Rattle.rules.specs.Truth.{Tells}
use Rattle.rules.specs.Merging.{exactly}
use Rattle.rules.specs.Counting.{all_same, best}
use Rattle.rules.proofs.Lists.{every_in}
use Rattle.rules.proofs.Best.{first, Leads, best_leads}
use Rattle.rules.proofs.Telling.{tells_by, same_of_some, all_same_told}
use Rattle.counting.specs.declared.tally.Seen.{Seen}
use Rattle.counting.specs.Tallied.{no_two, least_of, most_of}

-- two tests of one statement give the same
tells_once : (P : Type 0) (a b : Bool) → Tells P a → Tells P b → a ≡ b
tells_once P true true p q = refl
tells_once P true false p q = absurd (q p)
tells_once P false true p q = absurd (p q)
tells_once P false false p q = refl

-- rows and their elements
element_in : {V : Type 0} (v : V) (rows : List (Row V)) → In v (elements rows) → In (Some v) rows
element_in v [] i = elim i [ ]
element_in v (None ∷ rows) i = later (element_in v rows i)
element_in v (Some u ∷ rows) here = here
element_in v (Some u ∷ rows) (later i) = later (element_in v rows i)

in_elements : {V : Type 0} (v : V) (rows : List (Row V)) → In (Some v) rows → In v (elements rows)
in_elements v [] i = elim i [ ]
in_elements v (None ∷ rows) (later i) = in_elements v rows i
in_elements v (Some u ∷ rows) here = here
in_elements v (Some u ∷ rows) (later i) = later (in_elements v rows i)

-- a null among them is counted, and one that is counted is among them
null_counted : {V : Type 0} (rows : List (Row V)) → In None rows → 1 ≤ nulls rows
null_counted [] i = elim i [ ]
null_counted (None ∷ rows) i = omega arith
null_counted (Some u ∷ rows) (later i) = null_counted rows i

null_in : {V : Type 0} (rows : List (Row V)) → (nulls rows ≡ 0) ⊎ In None rows
null_in [] = inl refl
null_in (None ∷ rows) = inr here
null_in (Some u ∷ rows) = elim (null_in rows) [ inl e ↦ inl e | inr i ↦ inr (later i) ]

module _ {V : Type 0} (ahead behind : V → V → Bool) (strict : Strict ahead behind) where
  -- the best stands in the list, and none lies ahead of it
  best_is : (vs : List V) (v : V) → Exact v ≡ exactly (best (first ahead) vs) → Leads ahead vs v
  best_is [] v e = let z : ◌≡◌ {A = ℕ} 0 1 = cc in absurd (omega arith)
  best_is (x ∷ vs) v e =
      let b = best_leads ahead behind strict x vs in
      let f : Exact v ≡ Exact b.0 = e ∙ ap exactly b.1 in
      let same : b.0 ≡ v = cc in
      subst (Leads ahead (x ∷ vs)) same b.2

  -- without a best there is no element
  best_none : (vs : List V) → Absent ≡ exactly (best (first ahead) vs) → (v : V) → In v vs → ⊥
  best_none [] e v i = elim i [ ]
  best_none (x ∷ vs) e v i =
      let b = best_leads ahead behind strict x vs in
      let f : Absent ≡ Exact b.0 = e ∙ ap exactly b.1 in
      let z : ◌≡◌ {A = ℕ} 0 1 = cc in
      omega arith

module _ {V : Type 0} (order : V → V → Ordering) (laws : OrderLaws order) (rows : List (Row V)) where
  -- every row is null
  all_null : ((v : V) → In v (elements rows) → ⊥) → NoTwoDiffer rows
  all_null h None None i j = refl
  all_null h None (Some y) i j = absurd (h y (in_elements y rows j))
  all_null h (Some x) y i j = absurd (h x (in_elements x rows i))

  -- none is null, and the least is the greatest
  each_least : (least most : V) → Leads (below order) (elements rows) least → Leads (above order) (elements rows) most → nulls rows ≡ 0 → least ≡ most → (x : Row V) → In x rows → x ≡ Some least
  each_least least most p q z e None i = absurd (omega (arith, null_counted rows i))
  each_least least most p q z e (Some v) i =
      let j = in_elements v rows i in
      ap Some
      (below_level order laws v least (every_in (λ x. below order x least ≡ false) v (elements rows) p.1 j)
      (ap (λ x. below order x v) e ∙ sym (above_round order laws v most) ∙ every_in (λ x. above order x most ≡ false) v (elements rows) q.1 j))

  even_told : (least most : V) → Leads (below order) (elements rows) least → Leads (above order) (elements rows) most → Tells (NoTwoDiffer rows) (eqb (nulls rows) 0 && same order least most)
  even_told least most p q = tells_by (eqb (nulls rows) 0 && same order least most) even differ
    where
      even : (eqb (nulls rows) 0 && same order least most) ≡ true → NoTwoDiffer rows
      even h x y i j =
          let parts = and_parts (eqb (nulls rows) 0) (same order least most) h in
          let each = each_least least most p q (eqb-true (nulls rows) 0 parts.0) (same_is order laws least most parts.1) in
          each x i ∙ sym (each y j)

      no_null : NoTwoDiffer rows → nulls rows ≡ 0
      no_null h =
          elim (null_in rows) [
            | inl e ↦ e
            | inr i ↦ let f : None ≡ Some least = h None (Some least) i (element_in least rows p.0) in let z : ◌≡◌ {A = ℕ} 0 1 = cc in absurd (omega arith)
          ]

      differ : NoTwoDiffer rows → (eqb (nulls rows) 0 && same order least most) ≡ true
      differ h =
          and_from (eqb (nulls rows) 0) (same order least most) (eq-eqb (nulls rows) 0 (no_null h))
          (same_of_some order laws least most (h (Some least) (Some most) (element_in least rows p.0) (element_in most rows q.0)))

  no_two_told : (seen : Option (Seen V)) → least_of seen ≡ exactly (best (lesser order) (elements rows)) → most_of seen ≡ exactly (best (greater order) (elements rows)) → Tells (NoTwoDiffer rows) (no_two order seen (nulls rows))
  no_two_told None l m = all_null (best_none (below order) (above order) (below_strict order laws) (elements rows) l)
  no_two_told (Some s) l m =
      even_told s.least s.most (best_is (below order) (above order) (below_strict order laws) (elements rows) s.least l)
      (best_is (above order) (below order) (above_strict order laws) (elements rows) s.most m)

  -- it is what comparing neighbours gives
  pub no_two_is : (seen : Option (Seen V)) (n : ℕ) → least_of seen ≡ exactly (best (lesser order) (elements rows)) → most_of seen ≡ exactly (best (greater order) (elements rows)) → n ≡ nulls rows → no_two order seen n ≡ all_same order rows
  no_two_is seen n l m e =
      ap (no_two order seen) e ∙ tells_once (NoTwoDiffer rows) (no_two order seen (nulls rows)) (all_same order rows) (no_two_told seen l m) (all_same_told order laws rows)
