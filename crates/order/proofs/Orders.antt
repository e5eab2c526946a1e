-- What an order's laws give of its two tests, below and above: each is strict, and the one is the other turned round.
use Rattle.std.proofs.Common.{◌≡◌, Bool, true, false, cond, Ordering, Less, Equal, Greater, sym, refl, ap, ◌∙◌, subst}
use Rattle.std.proofs.lemmas.Bool.{true≢false, false≢true, false_from_ne_true, true_from_ne_false, both_ways, cond_both}
use Rattle.std.specs.Ordering.{is_lt, is_eq, is_gt, ordering_reverse}
use Rattle.order.specs.Order.{OrderLaws, below, same, above}

pub turned_true : (b : Bool) → cond b false true ≡ true → b ≡ false
turned_true true h = sym h
turned_true false h = refl

-- A strict test of which of two values lies ahead, and the same test turned round. A law over `Strict` serves below and above alike.
pub record Strict {V : Type 0} (ahead behind : V → V → Bool) : Type 0 where
  pub round : (x y : V) → behind x y ≡ ahead y x
  pub itself : (x : V) → ahead x x ≡ false
  pub one_way : (x y : V) → ahead x y ≡ true → ahead y x ≡ false
  pub through : (x y z : V) → ahead x y ≡ false → ahead y z ≡ false → ahead x z ≡ false
  pub level : (x y : V) → ahead x y ≡ false → ahead y x ≡ false → x ≡ y

-- how the tests read an answer and the answer turned round
above_is_turned : (o : Ordering) → is_gt o ≡ is_lt (ordering_reverse o)
above_is_turned Less = refl
above_is_turned Equal = refl
above_is_turned Greater = refl

below_is_less : (o : Ordering) → is_lt o ≡ true → o ≡ Less
below_is_less Less h = refl
below_is_less Equal h = absurd (false≢true h)
below_is_less Greater h = absurd (false≢true h)

level_is_equal : (o : Ordering) → is_lt o ≡ false → is_gt o ≡ false → o ≡ Equal
level_is_equal Less h k = absurd (true≢false h)
level_is_equal Equal h k = refl
level_is_equal Greater h k = absurd (true≢false k)

same_is_equal : (o : Ordering) → is_eq o ≡ true → o ≡ Equal
same_is_equal Less h = absurd (false≢true h)
same_is_equal Equal h = refl
same_is_equal Greater h = absurd (false≢true h)

module _ {V : Type 0} (order : V → V → Ordering) (laws : OrderLaws order) where
  pub above_round : (x y : V) → above order x y ≡ below order y x
  above_round x y = above_is_turned (order x y) ∙ ap is_lt (sym (laws.both_ways x y))

  pub below_round : (x y : V) → below order x y ≡ above order y x
  below_round x y = sym (above_round y x)

  pub not_below_itself : (x : V) → below order x x ≡ false
  not_below_itself x = ap is_lt (laws.itself x)

  pub same_itself : (x : V) → same order x x ≡ true
  same_itself x = ap is_eq (laws.itself x)

  pub same_is : (x y : V) → same order x y ≡ true → x ≡ y
  same_is x y h = laws.same x y (same_is_equal (order x y) h)

  pub same_of : (x y : V) → x ≡ y → same order x y ≡ true
  same_of x y e = subst (λ v. same order x v ≡ true) e (same_itself x)

  pub below_one_way : (x y : V) → below order x y ≡ true → below order y x ≡ false
  below_one_way x y h = ap is_lt (laws.both_ways x y ∙ ap ordering_reverse (below_is_less (order x y) h))

  pub below_level : (x y : V) → below order x y ≡ false → below order y x ≡ false → x ≡ y
  below_level x y h k = laws.same x y (level_is_equal (order x y) h (above_round x y ∙ k))

  -- x is below z, and not below y: then y is below z
  below_over : (x y z : V) (o : Ordering) → order x y ≡ o → is_lt o ≡ false → below order x z ≡ true → below order y z ≡ true
  below_over x y z Less e h k = absurd (true≢false h)
  below_over x y z Equal e h k = rw (laws.same x y e) at k
  below_over x y z Greater e h k =
      ap is_lt (laws.through y x z (laws.both_ways x y ∙ ap ordering_reverse e) (below_is_less (order x z) k))

  pub below_through : (x y z : V) → below order x y ≡ false → below order y z ≡ false → below order x z ≡ false
  below_through x y z h k =
      false_from_ne_true (below order x z) (λ e. both_ways (below order y z) k (below_over x y z (order x y) refl h e))

  pub below_strict : Strict (below order) (above order)
  below_strict =
      record { round = above_round; itself = not_below_itself; one_way = below_one_way; through = below_through; level = below_level }

  pub above_strict : Strict (above order) (below order)
  above_strict =
      record {
        round = below_round;
        itself = λ x. above_round x x ∙ not_below_itself x;
        one_way = λ x y h. above_round y x ∙ below_one_way y x (below_round y x ∙ h);
        through = λ x y z h k. above_round x z ∙ below_through z y x (below_round z y ∙ k) (below_round y x ∙ h);
        level = λ x y h k. below_level x y (below_round x y ∙ k) (below_round y x ∙ h);
      }

  -- x at most u, u at most v, v at most y: x at most y
  pub step_level : (u v x y : V) → cond (above order u v) false true ≡ true → above order x u ≡ false → below order y v ≡ false → above order x y ≡ false
  step_level u v x y step h k = above_round x y ∙ below_through y v x k (below_through v u x (below_round v u ∙ turned_true (above order u v) step) (below_round u x ∙ h))

  -- x at most u, u below v, v at most y: x below y
  pub step_up : (u v x y : V) → below order u v ≡ true → above order x u ≡ false → below order y v ≡ false → below order x y ≡ true
  step_up u v x y step h k =
      true_from_ne_false (below order x y) (λ n. both_ways (below order u v) (below_through u x v (below_round u x ∙ h) (below_through x y v n k)) step)

-- of two values the one that lies ahead: neither lies ahead of it
module _ {V : Type 0} (ahead behind : V → V → Bool) (strict : Strict ahead behind) where
  abbrev pub first : V → V → V
  first x y = cond (ahead x y) x y

  pub first_over_left : (x y : V) → ahead x (first x y) ≡ false
  first_over_left x y = cond_both (ahead x y) x y (λ m. ahead x m ≡ false) (λ _. strict.itself x) (λ h. h)

  pub first_over_right : (x y : V) → ahead y (first x y) ≡ false
  first_over_right x y = cond_both (ahead x y) x y (λ m. ahead y m ≡ false) (λ h. strict.one_way x y h) (λ _. strict.itself y)
