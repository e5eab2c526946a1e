-- The orders of flags and of whole numbers have the laws of an order.
use Rattle.std.proofs.Common.{◌≡◌, ℕ, ◌≤◌, Bool, true, false, Less, Equal, refl, ap, arith}
use Rattle.std.proofs.lemmas.Bool.Decides.{nat_tests}
use Rattle.std.proofs.lemmas.Int.{ints}
use Rattle.std.proofs.lemmas.Bool.{true≢false}
use Rattle.std.specs.Ordering.{ordering_reverse, is_lt, is_gt}
use Rattle.order.specs.Order.{OrderLaws, above, flag_order, count_order, integer_order}

flags_same : (x y : Bool) → flag_order x y ≡ Equal → x ≡ y
flags_same false false e = refl
flags_same false true e = absurd (true≢false (ap is_lt e))
flags_same true false e = absurd (true≢false (ap is_gt e))
flags_same true true e = refl

flag_itself : (x : Bool) → flag_order x x ≡ Equal
flag_itself false = refl
flag_itself true = refl

flags_both_ways : (x y : Bool) → flag_order y x ≡ ordering_reverse (flag_order x y)
flags_both_ways false false = refl
flags_both_ways false true = refl
flags_both_ways true false = refl
flags_both_ways true true = refl

flags_through : (x y z : Bool) → flag_order x y ≡ Less → flag_order y z ≡ Less → flag_order x z ≡ Less
flags_through false false z h k = k
flags_through false true false h k = absurd (true≢false (ap is_gt k))
flags_through false true true h k = refl
flags_through true false z h k = absurd (true≢false (ap is_gt h))
flags_through true true z h k = k

pub flags_ordered : OrderLaws flag_order
flags_ordered = record { same = flags_same; itself = flag_itself; both_ways = flags_both_ways; through = flags_through }

pub counts_ordered : OrderLaws count_order
counts_ordered =
    record {
      same = λ x y e. grind (arith, nat_tests);
      itself = λ x. grind (arith, nat_tests);
      both_ways = λ x y. grind (arith, nat_tests);
      through = λ x y z e f. grind (arith, nat_tests);
    }

pub integers_ordered : OrderLaws integer_order
integers_ordered =
    record {
      same = λ x y e. grind (arith, ints, nat_tests);
      itself = λ x. grind (arith, ints, nat_tests);
      both_ways = λ x y. grind (arith, ints, nat_tests);
      through = λ x y z e f. grind (arith, ints, nat_tests);
    }

-- a count that is at most another is not above it
pub not_above : (m n : ℕ) → m ≤ n → above count_order m n ≡ false
not_above m n h = grind (arith, nat_tests)
