-- The two questions that there are: which rows match, and of which claims they say skip.
use Rattle.std.specs.Prelude.{Bool, true, false, not, ◌&&◌, ◌||◌, Some, None, Option, nat_eq}
use Rattle.std.specs.declared.cmp.Ordering.{Ordering}
use Rattle.stat.specs.declared.Stat.TheVariants.{Max, Min, NullCount}
use Rattle.precision.specs.Claims.{value_of}
use Rattle.order.specs.Order.{below, above}
use Rattle.rules.specs.Rows.{Row}
use Rattle.statement.specs.Kinds.{element_claim, count_claim}
use Rattle.rules.specs.Sets.{Entries, got}

-- whether there is a value, and it passes
abbrev pub passes : {A : Type 0} → (A → Bool) → Option A → Bool
passes test (Some x) = test x
passes test None = false

module _ {V : Type 0} (order : V → V → Ordering) (lo hi : V) where
  -- elements from lo to hi
  abbrev pub in_range : Row V → Bool
  in_range (Some v) = not (below order v lo) && not (above order v hi)
  in_range None = false

  -- lo is above hi, the greatest is below lo, or the least is above hi, exact or not
  abbrev pub out_of_range : {S : Type 0} → Entries V S → Bool
  out_of_range es =
      above order lo hi
      || (passes (λ m. below order m lo) (value_of (element_claim (got es Max))) || passes (λ m. above order m hi) (value_of (element_claim (got es Min))))

abbrev pub is_null : {V : Type 0} → Row V → Bool
is_null (Some v) = false
is_null None = true

-- the number of nulls is 0, exact or not
abbrev pub no_nulls : {V S : Type 0} → Entries V S → Bool
no_nulls es = passes (λ n. nat_eq n 0) (value_of (count_claim (got es NullCount)))
