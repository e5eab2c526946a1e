-- Telling the claims of a tally, statistic after statistic.
use Rattle.std.proofs.Common.{◌≡◌, ℕ, zero, suc, ◌+◌, ◌<◌, ◌≤◌, true, false, cond, List, [], ◌∷◌, length, get_or, drop, Some, Option, sym, refl, ap, ◌∙◌, subst, ap₂, arith}
use Rattle.std.specs.List.{slice_get}
use Rattle.std.proofs.lemmas.List.{drop_all, drop_more}
use Rattle.std.proofs.lemmas.Bool.{cond-true, cond-false}
use Rattle.stat.specs.declared.Stat.{Stat}
use Rattle.stat.specs.Stats.{all_stats}
use Rattle.precision.specs.Claims.{is_absent}
use Rattle.rules.specs.Column.{Column, ColumnLaws}
use Rattle.rules.specs.Rows.{Row}
use Rattle.statement.specs.declared.Statement.{Statement}
use Rattle.statement.specs.Kinds.{Claim, stated}
use Rattle.rules.specs.Counting.{counted_claim, counted}
use Rattle.rules.proofs.Counted.{told, counted_told}
use Rattle.counting.specs.declared.tally.Tally.{Tally}
use Rattle.counting.specs.Tallied.{fresh, tally_claim, present}
use Rattle.counting.proofs.Running.{run, tally_is}

module _ {V S : Type 0} (f : Stat → Claim V S) (ss : List Stat) (is : ss ≡ all_stats) (i : ℕ) where
  -- what is left to tell, from the statistic at i
  next : (d : Stat) → i < 9 → present f (drop i ss) ≡ cond (is_absent (f (get_or ss i d))) (present f (drop (i + 1) ss)) (stated (get_or ss i d) (f (get_or ss i d)) ∷ present f (drop (i + 1) ss))
  next d below = ap (present f) (drop_more ss i d (subst (λ l. i < length l) (sym is) below))

  pub passed : (d : Stat) (x : Claim V S) → i < 9 → x ≡ f (get_or ss i d) → is_absent x ≡ true → present f (drop i ss) ≡ present f (drop (i + 1) ss)
  passed d x below e h = next d below ∙ cond-true (is_absent (f (get_or ss i d))) (present f (drop (i + 1) ss)) (stated (get_or ss i d) (f (get_or ss i d)) ∷ present f (drop (i + 1) ss)) (ap is_absent (sym e) ∙ h)

  pub told_next : (d : Stat) (x : Claim V S) → i < 9 → x ≡ f (get_or ss i d) → is_absent x ≡ false → present f (drop i ss) ≡ stated (get_or ss i d) x ∷ present f (drop (i + 1) ss)
  told_next d x below e h =
      next d below
      ∙ cond-false (is_absent (f (get_or ss i d))) (present f (drop (i + 1) ss)) (stated (get_or ss i d) (f (get_or ss i d)) ∷ present f (drop (i + 1) ss)) (ap is_absent (sym e) ∙ h)
      ∙ ap (λ c. stated (get_or ss i d) c ∷ present f (drop (i + 1) ss)) (sym e)

  pub all_told : 9 ≤ i → present f (drop i ss) ≡ []
  all_told past = ap (present f) (drop_all i ss (subst (λ l. length l ≤ i) (sym is) past))

-- past the first place
nth_next : {A : Type 0} (x : A) (xs : List A) (n m : ℕ) → (n ≡ 0 → ⊥) → m + 1 ≡ n → slice_get (x ∷ xs) n ≡ slice_get xs m
nth_next x xs zero m some e = absurd (some refl)
nth_next x xs (suc n) m some e = ap (slice_get xs) (omega (arith, e))

module _ {V S : Type 0} (f : Stat → Claim V S) (ss : List Stat) (is : ss ≡ all_stats) (i : ℕ) (d : Stat) (x : Claim V S) (below : i < 9) (e : x ≡ f (get_or ss i d)) where
  -- the statement looked for, at place 0 of those that are left
  pub told_here : (o : Option (Statement V S)) (left : ℕ) → o ≡ slice_get (present f (drop i ss)) left → left ≡ 0 → is_absent x ≡ false → Some (stated (get_or ss i d) x) ≡ o
  told_here o left was none h = sym (was ∙ ap₂ slice_get (told_next f ss is i d x below e h) none)

  pub told_later : (o : Option (Statement V S)) (left more : ℕ) → o ≡ slice_get (present f (drop i ss)) left → (left ≡ 0 → ⊥) → more + 1 ≡ left → is_absent x ≡ false → o ≡ slice_get (present f (drop (i + 1) ss)) more
  told_later o left more was some fewer h =
      was ∙ ap (λ l. slice_get l left) (told_next f ss is i d x below e h) ∙ nth_next (stated (get_or ss i d) x) (present f (drop (i + 1) ss)) left more some fewer

  pub not_told : (o : Option (Statement V S)) (left more : ℕ) → o ≡ slice_get (present f (drop i ss)) left → more ≡ left → is_absent x ≡ true → o ≡ slice_get (present f (drop (i + 1) ss)) more
  not_told o left more was same h = was ∙ ap₂ slice_get (passed f ss is i d x below e h) (sym same)

  -- how many are told so far
  pub one_more : (n len more : ℕ) → (len ≤ i) × (n ≡ len + length (present f (drop i ss))) → more ≡ len + 1 → is_absent x ≡ false → (more ≤ i + 1) × (n ≡ more + length (present f (drop (i + 1) ss)))
  one_more n len more was grown h = (omega (arith, was.0, grown), omega (arith, was.1, grown, ap length (told_next f ss is i d x below e h)))

  pub as_many : (n len more : ℕ) → (len ≤ i) × (n ≡ len + length (present f (drop i ss))) → more ≡ len → is_absent x ≡ true → (more ≤ i + 1) × (n ≡ more + length (present f (drop (i + 1) ss)))
  as_many n len more was same h = (omega (arith, was.0, same), omega (arith, was.1, same, ap length (passed f ss is i d x below e h)))

-- equal claims are told alike
told_alike : {V S : Type 0} (f g : Stat → Claim V S) → ((s : Stat) → f s ≡ g s) → (ss : List Stat) → present f ss ≡ told g ss
told_alike f g e [] = refl
told_alike f g e (s ∷ ss) = ap₂ (λ c r. cond (is_absent c) r (stated s c ∷ r)) (e s) (told_alike f g e ss)

-- the claims of the tally of all rows are what counting gives
pub tells_counted : {V S : Type 0} (k : Column V S) → ColumnLaws k → (rows : List (Row V)) (t : Tally V S) → t ≡ run k (fresh k.sums) rows → present (tally_claim k.order k.sums t (length rows)) all_stats ≡ counted k rows
tells_counted k laws rows t e =
    ap (λ u. present (tally_claim k.order k.sums u (length rows)) all_stats) e
    ∙ told_alike (tally_claim k.order k.sums (run k (fresh k.sums) rows) (length rows)) (counted_claim k rows) (tally_is k laws rows) all_stats
    ∙ sym (counted_told k rows)
