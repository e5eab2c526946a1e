-- The merge's rules keep truth: of claims true of two lists a rule makes a claim true of both, one after the other.
use Rattle.std.proofs.Common.{◌≡◌, ℕ, ◌+◌, ◌^◌, ◌≤◌, Bool, true, false, cond, ◌&&◌, ◌||◌, ltb, ◌⊎◌, List, ◌++◌, ℤ, ◌+ℤ◌, Some, None, Option, Ordering, sym, ◌∙◌, subst, ap₂, inl, inr, arith}
use mathlib.Core.Bool.{false≢true}
use Rattle.std.proofs.ByRecursion.{All-append, All-weaker}
use Rattle.std.proofs.lemmas.Bool.{cond_both, or_cases, and_parts}
use Rattle.precision.specs.declared.precision.Precision.{Precision}
use Rattle.precision.specs.declared.precision.Precision.TheVariants.{Exact, Inexact, Absent}
use Rattle.order.specs.Order.{OrderLaws, same}
use Rattle.rules.specs.Column.{Adds}
use Rattle.rules.specs.Rows.{Row, In, Every, Steps, elements, number_total, NoTwoDiffer}
use Rattle.precision.specs.Claims.{value_of, exact_of}
use Rattle.stat_bound.specs.Bounds.{Says, Always, union_by}
use Rattle.rules.specs.Truth.{Tells}
use Rattle.rules.specs.Merging.{or_absent, both, is_exactly, constant_rule, sorted_rule, exactly, sum_rule, count_rule}
use Rattle.rules.proofs.Lists.{in_left, in_right}
use Rattle.rules.proofs.Joins.{steps_join, even_left, even_right, even_join, in_rows, total_join}
use Rattle.order.proofs.Orders.{Strict, same_is}
use Rattle.rules.proofs.Claims.{InSome}
use Rattle.rules.proofs.Telling.{tells_by, same_of_some}
use Rattle.rules.proofs.Best.{NoneAhead, Leads}

pub some_both : {A : Type 0} (P Q : A → Type 0) (x : Option A) → InSome P x → InSome Q x → InSome (λ v. P v × Q v) x
some_both P Q (Some v) h k = (h, k)
some_both P Q None h k = tt

-- what an exact claim says of its value
module _ {A : Type 0} (E I : A → Type 0) where
  pub exact_says : (c : Precision A) → Says E I c → InSome E (exact_of c)
  exact_says (Exact v) h = h
  exact_says (Inexact v) h = tt
  exact_says Absent h = tt

  -- exact or not, where exact says more
  pub value_says : ((v : A) → E v → I v) → (c : Precision A) → Says E I c → InSome I (value_of c)
  value_says weaker (Exact v) h = weaker v h
  value_says weaker (Inexact v) h = h
  value_says weaker Absent h = tt

-- a claim made of two values, where both are there
pub both_says : {A B C : Type 0} (P : A → Type 0) (Q : B → Type 0) (E I : C → Type 0) (f : A → B → Precision C) → ((u : A) (v : B) → P u → Q v → Says E I (f u v)) → (x : Option A) (y : Option B) → InSome P x → InSome Q y → Says E I (both f x y)
both_says P Q E I f h (Some u) (Some v) p q = h u v p q
both_says P Q E I f h (Some u) None p q = tt
both_says P Q E I f h None (Some v) p q = tt
both_says P Q E I f h None None p q = tt

-- a flag that is exactly true or exactly false
pub told_true : (P : Type 0) (x : Precision Bool) → is_exactly true x ≡ true → Says (Tells P) Always x → P
told_true P (Exact true) e h = h
told_true P (Exact false) e h = absurd (false≢true e)
told_true P (Inexact b) e h = absurd (false≢true e)
told_true P Absent e h = absurd (false≢true e)

pub told_false : (P : Type 0) (x : Precision Bool) → is_exactly false x ≡ true → Says (Tells P) Always x → P → ⊥
told_false P (Exact true) e h = absurd (false≢true e)
told_false P (Exact false) e h = h
told_false P (Inexact b) e h = absurd (false≢true e)
told_false P Absent e h = absurd (false≢true e)

-- Constant: two even lists of rows are even together if their least elements are the same.
module _ {V : Type 0} (order : V → V → Ordering) (laws : OrderLaws order) (a b : List (Row V)) where
  even_told : (u v : V) → NoTwoDiffer a → NoTwoDiffer b → In u (elements a) → In v (elements b) → Tells (NoTwoDiffer (a ++ b)) (same order u v)
  even_told u v ea eb iu iv =
      tells_by (same order u v)
      (λ e. even_join (Some v) a b ea eb (subst (λ w. In (Some w) a) (same_is order laws u v e) (in_rows u a iu)) (in_rows v b iv))
      (λ even. same_of_some order laws u v (even (Some u) (Some v) (in_left b (in_rows u a iu)) (in_right a (in_rows v b iv))))

  pub constant_true : (E F I J : V → Type 0) → ((v : V) → E v → In v (elements a)) → ((v : V) → F v → In v (elements b)) → (x y : Precision Bool) (m n : Precision V) → Says (Tells (NoTwoDiffer a)) Always x → Says (Tells (NoTwoDiffer b)) Always y → Says E I m → Says F J n → Says (Tells (NoTwoDiffer (a ++ b))) Always (constant_rule order x y m n)
  constant_true E F I J in-a in_b x y m n hx hy hm hn =
      cond_both
      (is_exactly false x || is_exactly false y)
      (Exact false)
      (cond (is_exactly true x && is_exactly true y) (both (λ u v. Exact (same order u v)) (exact_of m) (exact_of n)) Absent)
      Good
      (λ e. uneven (or_cases (is_exactly false x) (is_exactly false y) e))
      (λ e. cond_both (is_exactly true x && is_exactly true y) (both (λ u v. Exact (same order u v)) (exact_of m) (exact_of n)) Absent Good even (λ e. tt))
    where
      Good : Precision Bool → Type 0
      Good c = Says (Tells (NoTwoDiffer (a ++ b))) Always c

      uneven : (is_exactly false x ≡ true) ⊎ (is_exactly false y ≡ true) → NoTwoDiffer (a ++ b) → ⊥
      uneven (inl e) h = told_false (NoTwoDiffer a) x e hx (even_left a b h)
      uneven (inr e) h = told_false (NoTwoDiffer b) y e hy (even_right a b h)

      even : (is_exactly true x && is_exactly true y) ≡ true → Good (both (λ u v. Exact (same order u v)) (exact_of m) (exact_of n))
      even e =
          let p = and_parts (is_exactly true x) (is_exactly true y) e in
          both_says
          E
          F
          (Tells (NoTwoDiffer (a ++ b)))
          Always
          (λ u v. Exact (same order u v))
          (λ u v hu hv. even_told u v (told_true (NoTwoDiffer a) x p.0 hx) (told_true (NoTwoDiffer b) y p.1 hy) (in-a u hu) (in_b v hv))
          (exact_of m)
          (exact_of n)
          (exact_says E I m hm)
          (exact_says F J n hn)

-- Sorted and strictly sorted: two lists in step stay so if the first's upper bound is in step with the second's lower bound.
module _ {V : Type 0} (R : V → V → Type 0) (in_step : V → V → Bool) (Top Low : V → V → Type 0) (sound : (u v x y : V) → in_step u v ≡ true → Top u x → Low v y → R x y) (xs ys : List V) where
  steps_told : (u v : V) → Steps R xs → Steps R ys → Every (Top u) xs → Every (Low v) ys → Says (Tells (Steps R (xs ++ ys))) Always (cond (in_step u v) (Exact true) (Inexact false))
  steps_told u v sx sy top low = cond_both (in_step u v) (Exact true) (Inexact false) (λ c. Says (Tells (Steps R (xs ++ ys))) Always c) (λ e. steps_join R xs ys sx sy (across e)) (λ e. tt)
    where
      across : in_step u v ≡ true → Every (λ x. Every (R x) ys) xs
      across e = All-weaker (Top u) (λ x. Every (R x) ys) (λ x t. All-weaker (Low v) (R x) (λ y l. sound u v x y e t l) ys low) xs top

  pub sorted_true : (E F : V → Type 0) → ((v : V) → E v → Every (Top v) xs) → ((v : V) → F v → Every (Low v) ys) → (x y : Precision Bool) (top low : Precision V) → Says (Tells (Steps R xs)) Always x → Says (Tells (Steps R ys)) Always y → Says E (λ v. Every (Top v) xs) top → Says F (λ v. Every (Low v) ys) low → Says (Tells (Steps R (xs ++ ys))) Always (sorted_rule in_step x y top low)
  sorted_true E F topped lowed x y top low hx hy ht hl =
      cond_both (is_exactly true x && is_exactly true y) (both told (value_of top) (value_of low)) Absent Good in_both (λ e. tt)
    where
      told : V → V → Precision Bool
      told u v = cond (in_step u v) (Exact true) (Inexact false)

      Good : Precision Bool → Type 0
      Good c = Says (Tells (Steps R (xs ++ ys))) Always c

      in_both : (is_exactly true x && is_exactly true y) ≡ true → Good (both told (value_of top) (value_of low))
      in_both e =
          let p = and_parts (is_exactly true x) (is_exactly true y) e in
          both_says
          (λ v. Every (Top v) xs)
          (λ v. Every (Low v) ys)
          (Tells (Steps R (xs ++ ys)))
          Always
          told
          (λ u v hu hv. steps_told u v (told_true (Steps R xs) x p.0 hx) (told_true (Steps R ys) y p.1 hy) hu hv)
          (value_of top)
          (value_of low)
          (value_says E (λ v. Every (Top v) xs) topped top ht)
          (value_says F (λ v. Every (Low v) ys) lowed low hl)

-- Max and Min: the union by the test of which value lies ahead.

-- the claim tells the element that leads, or a bound that none lies ahead of
abbrev pub Farthest : {V : Type 0} → (V → V → Bool) → List V → Precision V → Type 0
Farthest ahead vs = Says (Leads ahead vs) (NoneAhead ahead vs)

module _ {V : Type 0} (ahead behind : V → V → Bool) (strict : Strict ahead behind) (xs ys : List V) where
  -- no element of a list lies ahead of a value that the list's own bound does not lie ahead of
  farther : (zs : List V) (u v : V) → NoneAhead ahead zs u → ahead u v ≡ false → NoneAhead ahead zs v
  farther zs u v h e = All-weaker (λ z. ahead z u ≡ false) (λ z. ahead z v ≡ false) (λ z n. strict.through z u v n e) zs h

  left_leads : (u v : V) → NoneAhead ahead xs u → NoneAhead ahead ys v → ahead v u ≡ false → NoneAhead ahead (xs ++ ys) u
  left_leads u v h k e = All-append (λ z. ahead z u ≡ false) xs ys h (farther ys v u k e)

  right_leads : (u v : V) → NoneAhead ahead xs u → NoneAhead ahead ys v → ahead u v ≡ false → NoneAhead ahead (xs ++ ys) v
  right_leads u v h k e = All-append (λ z. ahead z v ≡ false) xs ys (farther xs u v h e) k

  pub union_true : (x y : Precision V) → Farthest ahead xs x → Farthest ahead ys y → Farthest ahead (xs ++ ys) (or_absent (union_by ahead x y))
  union_true (Exact u) (Exact v) h k =
      cond_both
      (ahead u v)
      u
      v
      (Leads ahead (xs ++ ys))
      (λ e. (in_left ys h.0, left_leads u v h.1 k.1 (strict.one_way u v e)))
      (λ e. (in_right xs k.0, right_leads u v h.1 k.1 e))
  union_true (Inexact u) (Inexact v) h k =
      cond_both (ahead u v) u v (NoneAhead ahead (xs ++ ys)) (λ e. left_leads u v h k (strict.one_way u v e)) (λ e. right_leads u v h k e)
  union_true (Exact u) (Inexact v) h k =
      cond_both
      (ahead v u)
      (Inexact v)
      (Exact u)
      (λ c. Farthest ahead (xs ++ ys) c)
      (λ e. right_leads u v h.1 k (strict.one_way v u e))
      (λ e. (in_left ys h.0, left_leads u v h.1 k e))
  union_true (Inexact u) (Exact v) h k =
      cond_both
      (ahead u v)
      (Inexact u)
      (Exact v)
      (λ c. Farthest ahead (xs ++ ys) c)
      (λ e. left_leads u v h k.1 (strict.one_way u v e))
      (λ e. (in_right xs k.0, right_leads u v h k.1 e))
  union_true (Exact u) Absent h k = tt
  union_true (Inexact u) Absent h k = tt
  union_true Absent (Exact v) h k = tt
  union_true Absent (Inexact v) h k = tt
  union_true Absent Absent h k = tt

-- Sum: two sums that add stand for the total of both lists.

-- the sum adds as it should
abbrev pub Lawful : {S : Type 0} → (S → ℤ) → (S → S → Option S) → S → Type 0
Lawful {S} total plus s = (t : S) → Adds total s t (plus s t)

module _ {V S : Type 0} (number : V → ℤ) (total : S → ℤ) (plus : S → S → Option S) (xs ys : List V) where
  -- the sum stands for the total
  abbrev Sums : List V → S → Type 0
  Sums vs s = total s ≡ number_total number vs

  sum_told : (s t : S) (u : Option S) → Adds total s t u → Sums xs s → Sums ys t → Says (Sums (xs ++ ys)) Always (exactly u)
  sum_told s t (Some u) h p q = h ∙ ap₂ ◌+ℤ◌ p q ∙ sym (total_join number xs ys)
  sum_told s t None h p q = tt

  pub sum_true : (x y : Precision S) → InSome (Lawful total plus) (exact_of x) → Says (Sums xs) Always x → Says (Sums ys) Always y → Says (Sums (xs ++ ys)) Always (sum_rule plus x y)
  sum_true x y lawful hx hy =
      both_says
      (λ s. Lawful total plus s × Sums xs s)
      (Sums ys)
      (Sums (xs ++ ys))
      Always
      (λ s t. exactly (plus s t))
      (λ s t p q. sum_told s t (plus s t) (p.0 t) p.1 q)
      (exact_of x)
      (exact_of y)
      (some_both (Lawful total plus) (Sums xs) (exact_of x) lawful (exact_says (Sums xs) Always x hx))
      (exact_says (Sums ys) Always y hy)

-- Counts: what two exact claims, and what two claims exact or not, say of two numbers goes over to their sum.
module _ (E F G I J K : ℕ → Type 0) (weaker : (m : ℕ) → E m → I m) (weaker' : (n : ℕ) → F n → J n) (exact : (m n : ℕ) → E m → F n → G (m + n)) (inexact : (m n : ℕ) → I m → J n → K (m + n)) where
  pub count_true : (x y : Precision ℕ) → Says E I x → Says F J y → Says G K (count_rule x y)
  count_true (Exact m) (Exact n) h k = cond_both (ltb (m + n) (2 ^ 64)) (Exact (m + n)) Absent (λ c. Says G K c) (λ e. exact m n h k) (λ e. tt)
  count_true (Exact m) (Inexact n) h k = cond_both (ltb (m + n) (2 ^ 64)) (Inexact (m + n)) Absent (λ c. Says G K c) (λ e. inexact m n (weaker m h) k) (λ e. tt)
  count_true (Inexact m) (Exact n) h k = cond_both (ltb (m + n) (2 ^ 64)) (Inexact (m + n)) Absent (λ c. Says G K c) (λ e. inexact m n h (weaker' n k)) (λ e. tt)
  count_true (Inexact m) (Inexact n) h k = cond_both (ltb (m + n) (2 ^ 64)) (Inexact (m + n)) Absent (λ c. Says G K c) (λ e. inexact m n h k) (λ e. tt)
  count_true (Exact m) Absent h k = tt
  count_true (Inexact m) Absent h k = tt
  count_true Absent (Exact n) h k = tt
  count_true Absent (Inexact n) h k = tt
  count_true Absent Absent h k = tt

-- a count of which each list has its own, and both together the sum
pub tally_true : (p q r : ℕ) → r ≡ p + q → (x y : Precision ℕ) → Says (λ n. n ≡ p) (λ n. p ≤ n) x → Says (λ n. n ≡ q) (λ n. q ≤ n) y → Says (λ n. n ≡ r) (λ n. r ≤ n) (count_rule x y)
tally_true p q r e =
    count_true
    (λ n. n ≡ p)
    (λ n. n ≡ q)
    (λ n. n ≡ r)
    (λ n. p ≤ n)
    (λ n. q ≤ n)
    (λ n. r ≤ n)
    (λ m h. omega arith)
    (λ n h. omega arith)
    (λ m n h k. omega arith)
    (λ m n h k. omega arith)

-- a count of which there is none in either
pub none_true : (x y : Precision ℕ) → Says (λ n. n ≡ 0) Always x → Says (λ n. n ≡ 0) Always y → Says (λ n. n ≡ 0) Always (count_rule x y)
none_true = count_true (λ n. n ≡ 0) (λ n. n ≡ 0) (λ n. n ≡ 0) Always Always Always (λ m h. tt) (λ n h. tt) (λ m n h k. omega arith) (λ m n h k. tt)
