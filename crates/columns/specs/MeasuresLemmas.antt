-- Measures: the laws of their order and of their sums.
use Rattle.std.specs.Prelude.{◌≡◌, ◌^◌, ◌<◌, ◌≤◌, Bool, true, false, ℤ, ◌+ℤ◌, Some, ◌≢◌, refl}
use Rattle.std.proofs.Common.{sym, ap, subst, arith, ltb-true, ltb-false}
use Rattle.std.proofs.Math.Bridge.{le_prop}
use Rattle.std.specs.Int.Signed.{mag}
use Rattle.columns.specs.declared.measure.Measure.{Measure}
use Rattle.columns.specs.Measures.{measure, measure_order, fits, measured_if, measured, measure_sums}
use Rattle.order.specs.Order.{OrderLaws}
use Rattle.order.proofs.Numbers.{integers_ordered}
use Rattle.rules.specs.Column.{Adds, SumLaws}

same_made : (y z : ℤ) (h : mag y < 2 ^ 63) (k : mag z < 2 ^ 63) → y ≡ z → measure y h ≡ measure z k
same_made y z h k e =
    subst (λ u. (l : mag u < 2 ^ 63) → measure y h ≡ measure u l) e (λ l. ap (measure y) (le_prop h l)) k

-- measures of one number are the same
pub same_measure : (x y : Measure) → x.value ≡ y.value → x ≡ y
same_measure x y e = same_made x.value y.value x.held y.held e

pub measures_ordered : OrderLaws measure_order
measures_ordered =
    record {
      same = λ x y e. same_measure x y (integers_ordered.same x.value y.value e);
      itself = λ x. integers_ordered.itself x.value;
      both_ways = λ x y. integers_ordered.both_ways x.value y.value;
      through = λ x y z e f. integers_ordered.through x.value y.value z.value e f;
    }

-- no measure has a number that does not fit
too_far : (z : ℤ) → fits z ≡ false → (m : Measure) → m.value ≢ z
too_far z h m e =
    let k : mag z < 2 ^ 63 = subst (λ u. mag u < 2 ^ 63) e m.held in
    let l : 2 ^ 63 ≤ mag z = ltb-false (mag z) (2 ^ 63) h in
    omega arith

module _ (m : Measure) (z : ℤ) (e : m.value ≡ z) where
  is_measured_if : (b : Bool) (h : fits z ≡ b) → measured_if z b h ≡ Some m
  is_measured_if true h = ap Some (same_measure (measure z (ltb-true (mag z) (2 ^ 63) h)) m (sym e))
  is_measured_if false h = absurd (too_far z h m e)

  -- a measure is what its number is measured as
  pub is_measured : measured z ≡ Some m
  is_measured = is_measured_if (fits z) refl

module _ (s t : Measure) where
  adds_if : (b : Bool) (h : fits (s.value +ℤ t.value) ≡ b) → Adds (λ m. m.value) s t (measured_if (s.value +ℤ t.value) b h)
  adds_if true h = refl
  adds_if false h = λ u e. too_far (s.value +ℤ t.value) h u e

pub measures_summed : SumLaws measure_sums
measures_summed =
    record {
      apart = same_measure;
      none = refl;
      one = λ v. refl;
      adds = λ s t. adds_if s t (fits (s.value +ℤ t.value)) refl;
    }
