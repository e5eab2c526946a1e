-- Measures: their order and their sums.
use Rattle.std.specs.Prelude.{◌≡◌, ◌^◌, ◌<◌, Bool, true, false, ℤ, pos, ◌+ℤ◌, Some, None, Option, nat_lt, refl}
use Rattle.std.specs.declared.cmp.Ordering.{Ordering}
use Rattle.std.proofs.Common.{lit<, ltb-true}
use Rattle.std.specs.Int.Signed.{mag}
use Rattle.columns.specs.declared.measure.Measure.{Measure}
use Rattle.order.specs.Order.{integer_order}
use Rattle.rules.specs.Column.{Sums}

-- the measure of a number that fits 64 signed bits
abbrev pub measure : (z : ℤ) → mag z < 2 ^ 63 → Measure
measure z held = record { value = z; held = held }

abbrev pub measure_order : Measure → Measure → Ordering
measure_order x y = integer_order x.value y.value

-- whether a number fits 64 signed bits
abbrev pub fits : ℤ → Bool
fits z = nat_lt (mag z) (2 ^ 63)

abbrev pub measured_if : (z : ℤ) (b : Bool) → fits z ≡ b → Option Measure
measured_if z true held = Some (measure z (ltb-true (mag z) (2 ^ 63) held))
measured_if z false held = None

-- the measure of a number, where it fits
abbrev pub measured : ℤ → Option Measure
measured z = measured_if z (fits z) refl

-- a measure stands for its number and is its own sum; two add where the total is the number of a measure
abbrev pub measure_sums : Sums Measure Measure
measure_sums =
    record {
      width = 8;
      has_sums = true;
      number = λ m. m.value;
      total = λ m. m.value;
      zero = measure (pos 0) (lit< tt);
      single = λ m. m;
      plus = λ a b. measured (a.value +ℤ b.value);
    }
