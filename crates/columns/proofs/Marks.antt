-- Marks: their bytes compare as they do.
use Rattle.std.proofs.Common.{◌≡◌, ℕ, ◌/◌, ◌%◌, ◌^◌, ◌<◌, List, [], ◌++◌, Ordering, Less, Equal, Greater, sym, refl, ap, ◌∙◌, arith}
use Rattle.std.proofs.lemmas.Bool.Decides.{nat_tests}
use Rattle.std.specs.Ordering.{ordering_then}
use Rattle.columns.specs.declared.mark.Mark.{Mark}
use Rattle.columns.specs.Marks.{four_bytes, mark_bytes, bytes_order, Narrow, SortsBytes}
use Rattle.order.specs.Order.{count_order}

then_assoc : (o p q : Ordering) → ordering_then (ordering_then o p) q ≡ ordering_then o (ordering_then p q)
then_assoc Less p q = refl
then_assoc Equal p q = refl
then_assoc Greater p q = refl

then_equal : (o : Ordering) → ordering_then o Equal ≡ o
then_equal Less = refl
then_equal Equal = refl
then_equal Greater = refl

-- numbers compare by all bytes but the last, and then by the last
last_byte : (m n : ℕ) → ordering_then (count_order (m / 256) (n / 256)) (count_order (m % 256) (n % 256)) ≡ count_order m n
last_byte m n = grind (arith, nat_tests)

-- so one byte more at the end, before what else decides
one_byte : (m n k l : ℕ) (o : Ordering) → k ≡ m / 256 → l ≡ n / 256 → ordering_then (count_order k l) (ordering_then (count_order (m % 256) (n % 256)) o) ≡ ordering_then (count_order m n) o
one_byte m n k l o p q =
    sym (then_assoc (count_order k l) (count_order (m % 256) (n % 256)) o) ∙ ap (λ x. ordering_then x o) (rw (p, q, last_byte m n))

first_byte : (m n : ℕ) (o : Ordering) → m < 2 ^ 32 → n < 2 ^ 32 → ordering_then (count_order (m / 16777216 % 256) (n / 16777216 % 256)) o ≡ ordering_then (count_order (m / 16777216) (n / 16777216)) o
first_byte m n o h k =
    let p : m / 16777216 % 256 ≡ m / 16777216 = omega arith in
    let q : n / 16777216 % 256 ≡ n / 16777216 = omega arith in
    rw (p, q)

-- numbers of 32 bits compare as their bytes do
four_sort : (m n : ℕ) (xs ys : List ℕ) → m < 2 ^ 32 → n < 2 ^ 32 → bytes_order (four_bytes m ++ xs) (four_bytes n ++ ys) ≡ ordering_then (count_order m n) (bytes_order xs ys)
four_sort m n xs ys h k =
    first_byte m n _ h k
    ∙ one_byte (m / 65536) (n / 65536) (m / 16777216) (n / 16777216) _ (omega arith) (omega arith)
    ∙ one_byte (m / 256) (n / 256) (m / 65536) (n / 65536) _ (omega arith) (omega arith)
    ∙ one_byte m n (m / 256) (n / 256) (bytes_order xs ys) refl refl

pub sorts_by_bytes : (m : Mark) → Narrow m → (bytes : List ℕ) → bytes ≡ mark_bytes m → SortsBytes m bytes
sorts_by_bytes m h bytes e other k =
    ap (λ bs. bytes_order bs (mark_bytes other)) e
    ∙ four_sort m.lot other.lot (four_bytes m.piece) (four_bytes other.piece) h.0 k.0
    ∙ ap (ordering_then (count_order m.lot other.lot)) (four_sort m.piece other.piece [] [] h.1 k.1 ∙ then_equal _)
