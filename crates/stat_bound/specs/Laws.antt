-- The laws of the three bounds: an intersection keeps what both sides allow, and is Empty only where nothing is; a union allows the one picked of two.
use Rattle.std.specs.Prelude.{◌≡◌, Bool, true, false, cond, refl}
use Rattle.std.specs.declared.cmp.Ordering.{Ordering}
use Rattle.std.proofs.Common.{sym, ap₂, subst, ◌∙◌}
use Rattle.std.proofs.lemmas.Bool.{true≢false, false≢true, both_ways, cond-false, cond_both}
use Rattle.order.specs.Order.{OrderLaws, same, below, above, lesser, greater}
use Rattle.order.proofs.Orders.{Strict, below_strict, above_strict, same_is, same_of, first, first_over_left, first_over_right}
use Rattle.precision.specs.declared.precision.Precision.{Precision}
use Rattle.precision.specs.declared.precision.Precision.TheVariants.{Exact, Inexact, Absent}
use Rattle.stat_bound.specs.declared.IntersectionResult.TheVariants.{Value, Empty}
use Rattle.stat_bound.specs.Bounds.{Meets, IntersectionLaw, UnionLaw, PrecisionAllows, Allows, precision_union, precision_intersection, bound_equals, Equates, union_by, intersection_by, lower_union, lower_intersection, upper_union, upper_intersection, LowerAllows, UpperAllows}

-- a result that gives a claim is not empty, since some value is allowed by both sides
nonempty : {T : Type 0} (allows : Precision T → T → Type 0) (x y c : Precision T) (v : T) → allows x v → allows y v → ((u : T) → allows x u → allows y u → allows c u) → ((u : T) → allows c u → allows x u × allows y u) → Meets allows x y (Value c)
nonempty allows x y c v p q k o = record { keeps = k; only = o; empty = (λ e. absurd (false≢true e), λ none. absurd (none v p q)) }

empty : {T : Type 0} (allows : Precision T → T → Type 0) (x y : Precision T) → ((v : T) → allows x v → allows y v → ⊥) → Meets allows x y Empty
empty allows x y none = record { keeps = λ v p q. none v p q; only = λ v h. absurd h; empty = (λ _. none, λ _. refl) }

-- Two exact claims meet where they are equal; `only` says that an exact claim allows its value alone.
module _ {T : Type 0} (order : T → T → Ordering) (laws : OrderLaws order) (allows : Precision T → T → Type 0) (to : (v w : T) → v ≡ w → allows (Exact w) v) (from : (v w : T) → allows (Exact w) v → v ≡ w) where
  exacts : (x y : T) → Meets allows (Exact x) (Exact y) (cond (same order x y) (Value (Exact x)) Empty)
  exacts x y =
      cond_both (same order x y) (Value (Exact x)) Empty (Meets allows (Exact x) (Exact y))
      (λ h. nonempty allows (Exact x) (Exact y) (Exact x) x (to x x refl) (to x y (same_is order laws x y h)) (λ u p q. p) (λ u p. (p, to u y (from u x p ∙ same_is order laws x y h))))
      (λ h. empty allows (Exact x) (Exact y) (λ v p q. both_ways (same order x y) h (same_of order laws x y (sym (from v x p) ∙ from v y q))))

module _ {T : Type 0} (order : T → T → Ordering) (laws : OrderLaws order) where
  pub precision_intersects : IntersectionLaw PrecisionAllows (precision_intersection order)
  precision_intersects (Exact x) (Exact y) a b = (_, refl, exacts order laws PrecisionAllows (λ v w h. h) (λ v w h. h) x y)
  precision_intersects (Inexact x) (Inexact y) a b = (_, refl, nonempty PrecisionAllows (Inexact x) (Inexact y) (Inexact (lesser order x y)) x tt tt (λ u p q. tt) (λ u p. (tt, tt)))
  precision_intersects (Exact e) (Inexact i) a b = (_, refl, nonempty PrecisionAllows (Exact e) (Inexact i) (Exact e) e refl tt (λ u p q. p) (λ u p. (p, tt)))
  precision_intersects (Inexact i) (Exact e) a b = (_, refl, nonempty PrecisionAllows (Inexact i) (Exact e) (Exact e) e tt refl (λ u p q. q) (λ u p. (tt, p)))
  precision_intersects (Exact x) Absent a b = absurd (true≢false b)
  precision_intersects (Inexact x) Absent a b = absurd (true≢false b)
  precision_intersects Absent (Exact y) a b = absurd (true≢false a)
  precision_intersects Absent (Inexact y) a b = absurd (true≢false a)
  precision_intersects Absent Absent a b = absurd (true≢false a)

pub precision_unites : {T : Type 0} (order : T → T → Ordering) → UnionLaw PrecisionAllows (lesser order) (precision_union order)
precision_unites order (Exact x) (Exact y) a b = (Exact (lesser order x y), refl, λ u v p q. ap₂ (lesser order) p q)
precision_unites order (Inexact x) (Inexact y) a b = (_, refl, λ u v p q. tt)
precision_unites order (Exact e) (Inexact i) a b = (_, refl, λ u v p q. tt)
precision_unites order (Inexact i) (Exact e) a b = (_, refl, λ u v p q. tt)
precision_unites order (Exact x) Absent a b = absurd (true≢false b)
precision_unites order (Inexact x) Absent a b = absurd (true≢false b)
precision_unites order Absent (Exact y) a b = absurd (true≢false a)
precision_unites order Absent (Inexact y) a b = absurd (true≢false a)
precision_unites order Absent Absent a b = absurd (true≢false a)

module _ {T : Type 0} (order : T → T → Ordering) (laws : OrderLaws order) (ahead behind : T → T → Bool) (strict : Strict ahead behind) (other : Strict behind ahead) where
  -- an exact claim that does not lie ahead of an inexact one is what both allow
  exact_inexact : (e i : T) → Meets (Allows ahead) (Exact e) (Inexact i) (cond (ahead e i) Empty (Value (Exact e)))
  exact_inexact e i =
      cond_both (ahead e i) Empty (Value (Exact e)) (Meets (Allows ahead) (Exact e) (Inexact i))
      (λ h. empty (Allows ahead) (Exact e) (Inexact i) (λ v p q. both_ways (ahead e i) (subst (λ w. ahead w i ≡ false) p q) h))
      (λ h. nonempty (Allows ahead) (Exact e) (Inexact i) (Exact e) e refl h (λ u p q. p) (λ u p. (p, subst (λ w. ahead w i ≡ false) (sym p) h)))

  inexact_exact : (e i : T) → Meets (Allows ahead) (Inexact i) (Exact e) (cond (ahead e i) Empty (Value (Exact e)))
  inexact_exact e i =
      cond_both (ahead e i) Empty (Value (Exact e)) (Meets (Allows ahead) (Inexact i) (Exact e))
      (λ h. empty (Allows ahead) (Inexact i) (Exact e) (λ v p q. both_ways (ahead e i) (subst (λ w. ahead w i ≡ false) q p) h))
      (λ h. nonempty (Allows ahead) (Inexact i) (Exact e) (Exact e) e h refl (λ u p q. q) (λ u p. (subst (λ w. ahead w i ≡ false) (sym p) h, p)))

  -- the one of two inexact claims that rules out more still allows its own value, and so does the other
  inexacts : (x y : T) → Meets (Allows ahead) (Inexact x) (Inexact y) (Value (Inexact (first behind ahead other x y)))
  inexacts x y =
      let v = first behind ahead other x y in
      let l : ahead v x ≡ false = other.round v x ∙ first_over_left behind ahead other x y in
      let r : ahead v y ≡ false = other.round v y ∙ first_over_right behind ahead other x y in
      nonempty (Allows ahead) (Inexact x) (Inexact y) (Inexact v) v l r
      (λ u p q. cond_both (behind x y) x y (λ w. ahead u w ≡ false) (λ _. p) (λ _. q))
      (λ u p. (strict.through u v x p l, strict.through u v y p r))

  bound_law : IntersectionLaw (Allows ahead) (intersection_by order ahead behind)
  bound_law (Exact x) (Exact y) a b = (_, refl, exacts order laws (Allows ahead) (λ v w h. h) (λ v w h. h) x y)
  bound_law (Inexact x) (Inexact y) a b = (_, refl, inexacts x y)
  bound_law (Exact e) (Inexact i) a b = (_, refl, exact_inexact e i)
  bound_law (Inexact i) (Exact e) a b = (_, refl, inexact_exact e i)
  bound_law (Exact x) Absent a b = absurd (true≢false b)
  bound_law (Inexact x) Absent a b = absurd (true≢false b)
  bound_law Absent (Exact y) a b = absurd (true≢false a)
  bound_law Absent (Inexact y) a b = absurd (true≢false a)
  bound_law Absent Absent a b = absurd (true≢false a)

-- Unions: of a value that the one side allows and one that the other allows, the one that lies ahead is allowed.
module _ {T : Type 0} (ahead behind : T → T → Bool) (strict : Strict ahead behind) where
  abbrev pick : T → T → T
  pick = first ahead behind strict

  inexacts_union : (x y u v : T) → ahead u x ≡ false → ahead v y ≡ false → ahead (pick u v) (pick x y) ≡ false
  inexacts_union x y u v p q =
      cond_both (ahead u v) u v (λ w. ahead w (pick x y) ≡ false)
      (λ _. strict.through u x (pick x y) p (first_over_left ahead behind strict x y))
      (λ _. strict.through v y (pick x y) q (first_over_right ahead behind strict x y))

  -- an exact e and an inexact i, of which the inexact one lies ahead: it still allows both
  ahead_union : (e i u v : T) → ahead i e ≡ true → u ≡ e → ahead v i ≡ false → (ahead (pick u v) i ≡ false) × (ahead (pick v u) i ≡ false)
  ahead_union e i u v h p q =
      let k : ahead u i ≡ false = subst (λ w. ahead w i ≡ false) (sym p) (strict.one_way i e h) in (
        cond_both (ahead u v) u v (λ w. ahead w i ≡ false) (λ _. k) (λ _. q),
        cond_both (ahead v u) v u (λ w. ahead w i ≡ false) (λ _. q) (λ _. k),
      )

  -- it does not lie ahead: then the exact one is the one picked
  level_union : (e i u v : T) → ahead i e ≡ false → u ≡ e → ahead v i ≡ false → (pick u v ≡ e) × (pick v u ≡ e)
  level_union e i u v h p q =
      let k : ahead v u ≡ false = subst (λ w. ahead v w ≡ false) (sym p) (strict.through v i e q h) in (
        cond_both (ahead u v) u v (λ w. w ≡ e) (λ _. p) (λ l. strict.level v u k l ∙ p),
        cond-false (ahead v u) v u k ∙ p,
      )

  mixed_union : (e i u v : T) → u ≡ e → ahead v i ≡ false → Allows ahead (cond (ahead i e) (Inexact i) (Exact e)) (pick u v) × Allows ahead (cond (ahead i e) (Inexact i) (Exact e)) (pick v u)
  mixed_union e i u v p q =
      cond_both (ahead i e) (Inexact i) (Exact e) (λ c. Allows ahead c (pick u v) × Allows ahead c (pick v u))
      (λ h. ahead_union e i u v h p q) (λ h. level_union e i u v h p q)

  union_law : UnionLaw (Allows ahead) pick (union_by ahead)
  union_law (Exact x) (Exact y) a b = (Exact (pick x y), refl, λ u v p q. ap₂ pick p q)
  union_law (Inexact x) (Inexact y) a b = (Inexact (pick x y), refl, inexacts_union x y)
  union_law (Exact e) (Inexact i) a b = (_, refl, λ u v p q. (mixed_union e i u v p q).0)
  union_law (Inexact i) (Exact e) a b = (_, refl, λ u v p q. (mixed_union e i v u q p).1)
  union_law (Exact x) Absent a b = absurd (true≢false b)
  union_law (Inexact x) Absent a b = absurd (true≢false b)
  union_law Absent (Exact y) a b = absurd (true≢false a)
  union_law Absent (Inexact y) a b = absurd (true≢false a)
  union_law Absent Absent a b = absurd (true≢false a)

module _ {T : Type 0} (order : T → T → Ordering) (laws : OrderLaws order) where
  pub lower_intersects : IntersectionLaw (LowerAllows order) (lower_intersection order)
  lower_intersects = bound_law order laws (below order) (above order) (below_strict order laws) (above_strict order laws)

  pub upper_intersects : IntersectionLaw (UpperAllows order) (upper_intersection order)
  upper_intersects = bound_law order laws (above order) (below order) (above_strict order laws) (below_strict order laws)

  pub lower_unites : UnionLaw (LowerAllows order) (lesser order) (lower_union order)
  lower_unites = union_law (below order) (above order) (below_strict order laws)

  pub upper_unites : UnionLaw (UpperAllows order) (greater order) (upper_union order)
  upper_unites = union_law (above order) (below order) (above_strict order laws)

-- a bound that is said to equal a value allows that value alone, where an exact one allows only its own
module _ {T : Type 0} (order : T → T → Ordering) (laws : OrderLaws order) (allows : Precision T → T → Type 0) (from : (x v : T) → allows (Exact v) x → x ≡ v) where
  alone : (c : Precision T) (v : T) → bound_equals order c v ≡ true → (x : T) → allows c x → x ≡ v
  alone (Exact w) v e x p = from x w p ∙ same_is order laws w v e
  alone (Inexact w) v e x p = absurd (false≢true e)
  alone Absent v e x p = absurd (false≢true e)

  pub equates : (c : Precision T) (v : T) (r : Bool) → r ≡ bound_equals order c v → Equates allows (bound_equals order c v) c v r
  equates c v r e = record { value = e; alone = λ t. alone c v (sym e ∙ t) }
