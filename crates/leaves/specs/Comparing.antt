-- The two comparisons of sortedness.
use Rattle.std.specs.Prelude.{Bool, true, false, cond}
use Rattle.std.specs.declared.cmp.Ordering.{Ordering}
use Rattle.order.specs.Order.{below, above}
use Rattle.leaves.specs.declared.Comparison.{Comparison}
use Rattle.leaves.specs.declared.Comparison.TheVariants.{Le, Lt}

-- at most, or below
abbrev pub in_step : {V : Type 0} → Comparison → (V → V → Ordering) → V → V → Bool
in_step Le order u v = cond (above order u v) false true
in_step Lt order u v = below order u v
