-- Sets as lists of entries: what holds of every entry after a change, and what stands in a set after `put`, or after a claim was put in for each of several statistics.
use Rattle.std.proofs.Common.{◌≡◌, Bool, true, false, cond, ◌⊎◌, List, [], ◌∷◌, ◌++◌, get_or, sym, refl, ap, ◌∙◌, subst, inl, inr}
use Rattle.std.proofs.ByRecursion.{All-append, All-weaker}
use Rattle.std.proofs.lemmas.Bool.{true≢false, false≢true, cond_both, eqb-true, eq-eqb, false_from_ne_true}
use Rattle.stat.specs.declared.Stat.{Stat}
use Rattle.stat.specs.declared.Stat.TheVariants.{IsConstant, IsSorted, IsStrictSorted, Max, Min, Sum, NullCount, UncompressedSizeInBytes, NaNCount}
use Rattle.precision.specs.declared.precision.Precision.TheVariants.{Exact, Inexact, Absent}
use Rattle.statement.specs.declared.Statement.{Statement}
use Rattle.rules.specs.Column.{Column}
use Rattle.rules.specs.Rows.{Row, In, here, later, Every}
use Rattle.statement.specs.Kinds.{Claim, stated}
use Rattle.stat.specs.Stats.{stat_number, same_stat, all_stats}
use Rattle.precision.specs.Claims.{is_absent}
use Rattle.rules.specs.Truth.{ClaimHolds, AllHold}
use Rattle.rules.specs.Sets.{Entries, Apart, got, has, without, retained, replaced, put}
use Rattle.rules.proofs.Lists.{every_in, in_every, every_both}
use Rattle.rules.proofs.Claims.{absent_holds}

-- statistics: the same by number are the same, and all nine are in the list
stat_at : (s : Stat) → get_or all_stats (stat_number s) IsConstant ≡ s
stat_at IsConstant = refl
stat_at IsSorted = refl
stat_at IsStrictSorted = refl
stat_at Max = refl
stat_at Min = refl
stat_at Sum = refl
stat_at NullCount = refl
stat_at UncompressedSizeInBytes = refl
stat_at NaNCount = refl

pub same_stat_is : (s r : Stat) → same_stat s r ≡ true → s ≡ r
same_stat_is s r h = sym (stat_at s) ∙ ap (λ n. get_or all_stats n IsConstant) (eqb-true (stat_number s) (stat_number r) h) ∙ stat_at r

pub stat_itself : (s : Stat) → same_stat s s ≡ true
stat_itself s = eq-eqb (stat_number s) (stat_number s) refl

stat_differs : (r s t : Stat) → same_stat r s ≡ false → same_stat s t ≡ true → same_stat r t ≡ false
stat_differs r s t d h = subst (λ u. same_stat r u ≡ false) (same_stat_is s t h) d

stat_turned : (s r : Stat) → same_stat s r ≡ false → same_stat r s ≡ false
stat_turned s r d = false_from_ne_true (same_stat r s) (λ t. true≢false (sym (stat_itself s) ∙ stat_differs s r s d t))

in_rest : (s r : Stat) (ss : List Stat) → same_stat s r ≡ false → In s (r ∷ ss) → In s ss
in_rest s r ss d here = absurd (true≢false (sym (stat_itself s) ∙ d))
in_rest s r ss d (later i) = i

pub in_all : (s : Stat) → In s all_stats
in_all IsConstant = here
in_all IsSorted = later here
in_all IsStrictSorted = later (later here)
in_all Max = later (later (later here))
in_all Min = later (later (later (later here)))
in_all Sum = later (later (later (later (later here))))
in_all NullCount = later (later (later (later (later (later here)))))
in_all UncompressedSizeInBytes = later (later (later (later (later (later (later here))))))
in_all NaNCount = later (later (later (later (later (later (later (later here)))))))

pub neither : (t u : Bool) → cond t true u ≡ false → (t ≡ false) × (u ≡ false)
neither true u h = absurd (true≢false h)
neither false u h = (refl, h)

-- one of two, whichever it is
pub cond_either : {A : Type 0} (P : A → Type 0) (b : Bool) (x y : A) → P x → P y → P (cond b x y)
cond_either P true x y p q = p
cond_either P false x y p q = q

module _ {V S : Type 0} where
  -- what holds of every entry holds of what `got` gives, if it holds of Absent
  pub got_every : (Q : Stat → Claim V S → Type 0) → ((s : Stat) → Q s Absent) → (es : Entries V S) → Every (λ e. Q e.stat e.claim) es → (s : Stat) → Q s (got es s)
  got_every Q absent [] h s = absent s
  got_every Q absent (e ∷ es) h s =
      cond_both
      (same_stat s e.stat)
      e.claim
      (got es s)
      (λ c. Q s c)
      (λ t. subst (λ r. Q r e.claim) (sym (same_stat_is s e.stat t)) h.0)
      (λ t. got_every Q absent es h.1 s)

  -- what holds of every entry of another statistic, and of the new one, holds of every entry after the put
  module _ (P : Statement V S → Type 0) (s : Stat) where
    others_without : (es : Entries V S) → Every (λ e. same_stat s e.stat ≡ false → P e) es → Every P (without es s)
    others_without [] h = tt
    others_without (e ∷ es) h = cond_both (same_stat s e.stat) (without es s) (e ∷ without es s) (λ l. Every P l) (λ t. others_without es h.1) (λ t. (h.0 t, others_without es h.1))

    others_replaced : (c : Claim V S) → P (stated s c) → (es : Entries V S) → Every (λ e. same_stat s e.stat ≡ false → P e) es → Every P (replaced es s c)
    others_replaced c new [] h = tt
    others_replaced c new (e ∷ es) h = (cond_both (same_stat s e.stat) (stated s c) e P (λ t. new) h.0, others_replaced c new es h.1)

  other_stats : (s : Stat) (es : Entries V S) → has es s ≡ false → Every (λ e. same_stat s e.stat ≡ false) es
  other_stats s [] h = tt
  other_stats s (e ∷ es) h =
      let n = neither (same_stat s e.stat) (has es s) h in
      (n.0, other_stats s es n.1)

  -- the three ways of `put`
  put_cases : (P : Entries V S → Type 0) (es : Entries V S) (s : Stat) (c : Claim V S) → (is_absent c ≡ true → P (without es s)) → (is_absent c ≡ false → has es s ≡ true → P (replaced es s c)) → (is_absent c ≡ false → has es s ≡ false → P (es ++ (stated s c ∷ []))) → P (put es s c)
  put_cases P es s c clears replaces adds = cond_both (is_absent c) (without es s) (cond (has es s) (replaced es s c) (es ++ (stated s c ∷ []))) P clears (λ a. cond_both (has es s) (replaced es s c) (es ++ (stated s c ∷ [])) P (replaces a) (adds a))

  pub others_put : (P : Statement V S → Type 0) (s : Stat) (c : Claim V S) → (is_absent c ≡ false → P (stated s c)) → (es : Entries V S) → Every (λ e. same_stat s e.stat ≡ false → P e) es → Every P (put es s c)
  others_put P s c new es h = put_cases (Every P) es s c (λ a. others_without P s es h) (λ a t. others_replaced P s c (new a) es h) (λ a t. All-append P es (stated s c ∷ []) (added t) (new a, tt))
    where
      added : has es s ≡ false → Every P es
      added t = every_both (λ e. same_stat s e.stat ≡ false) (λ e. same_stat s e.stat ≡ false → P e) P es (λ e n f. f n) (other_stats s es t) h

  -- what holds of every entry stays, if it holds of what is put in
  module _ (P : Statement V S → Type 0) where
    others_hold : (s : Stat) (es : Entries V S) → Every P es → Every (λ e. same_stat s e.stat ≡ false → P e) es
    others_hold s es h = All-weaker P (λ e. same_stat s e.stat ≡ false → P e) (λ e p d. p) es h

    pub every_without : (es : Entries V S) (s : Stat) → Every P es → Every P (without es s)
    every_without es s h = others_without P s es (others_hold s es h)

    pub every_put : (es : Entries V S) (s : Stat) (c : Claim V S) → Every P es → P (stated s c) → Every P (put es s c)
    every_put es s c h p = others_put P s c (λ a. p) es (others_hold s es h)

    pub every_retained : (keep : Stat → Bool) (es : Entries V S) → Every P es → Every P (retained keep es)
    every_retained keep [] h = tt
    every_retained keep (e ∷ es) h =
        let rest : Every P (retained keep es) = every_retained keep es h.1 in
        cond_either (Every P) (keep e.stat) (e ∷ retained keep es) (retained keep es) (h.0, rest) rest

  -- `got` after `put`: the new claim at its own statistic, and what was there at every other
  got_without : (es : Entries V S) (s : Stat) → got (without es s) s ≡ Absent
  got_without [] s = refl
  got_without (e ∷ es) s = go (same_stat s e.stat) refl (got_without es s)
    where
      go : (t : Bool) → same_stat s e.stat ≡ t → got (without es s) s ≡ Absent → got (cond t (without es s) (e ∷ without es s)) s ≡ Absent
      go true h ih = ih
      go false h ih = rw h ih

  got_replaced : (es : Entries V S) (s : Stat) (c : Claim V S) → has es s ≡ true → got (replaced es s c) s ≡ c
  got_replaced [] s c h = absurd (false≢true h)
  got_replaced (e ∷ es) s c h = go (same_stat s e.stat) refl h (got_replaced es s c)
    where
      go : (t : Bool) → same_stat s e.stat ≡ t → cond t true (has es s) ≡ true → (has es s ≡ true → got (replaced es s c) s ≡ c) → got (cond t (stated s c) e ∷ replaced es s c) s ≡ c
      go true d h ih = rw (stat_itself s) refl
      go false d h ih = rw d (ih h)

  got_added : (es : Entries V S) (s : Stat) (c : Claim V S) → has es s ≡ false → got (es ++ (stated s c ∷ [])) s ≡ c
  got_added [] s c h = rw (stat_itself s) refl
  got_added (e ∷ es) s c h =
      let n = neither (same_stat s e.stat) (has es s) h in
      rw n.0 (got_added es s c n.1)

  is_absent_true : (c : Claim V S) → is_absent c ≡ true → Absent ≡ c
  is_absent_true (Exact v) h = absurd (false≢true h)
  is_absent_true (Inexact v) h = absurd (false≢true h)
  is_absent_true Absent h = refl

  pub got_put : (es : Entries V S) (s : Stat) (c : Claim V S) → got (put es s c) s ≡ c
  got_put es s c = put_cases (λ l. got l s ≡ c) es s c (λ a. got_without es s ∙ is_absent_true c a) (λ a. got_replaced es s c) (λ a. got_added es s c)

  -- a statistic r that is not s
  module _ (r s : Stat) (differ : same_stat r s ≡ false) where
    other_without : (es : Entries V S) → got (without es s) r ≡ got es r
    other_without [] = refl
    other_without (e ∷ es) = go (same_stat s e.stat) refl (other_without es)
      where
        go : (t : Bool) → same_stat s e.stat ≡ t → got (without es s) r ≡ got es r → got (cond t (without es s) (e ∷ without es s)) r ≡ got (e ∷ es) r
        go true h ih = rw (stat_differs r s e.stat differ h) ih
        go false h ih = ap (cond (same_stat r e.stat) e.claim) ih

    other_replaced : (c : Claim V S) (es : Entries V S) → got (replaced es s c) r ≡ got es r
    other_replaced c [] = refl
    other_replaced c (e ∷ es) = go (same_stat s e.stat) refl (other_replaced c es)
      where
        go : (t : Bool) → same_stat s e.stat ≡ t → got (replaced es s c) r ≡ got es r → got (cond t (stated s c) e ∷ replaced es s c) r ≡ got (e ∷ es) r
        go true h ih = rw (differ, stat_differs r s e.stat differ h) ih
        go false h ih = ap (cond (same_stat r e.stat) e.claim) ih

    other_added : (c : Claim V S) (es : Entries V S) → got (es ++ (stated s c ∷ [])) r ≡ got es r
    other_added c [] = rw differ refl
    other_added c (e ∷ es) = ap (cond (same_stat r e.stat) e.claim) (other_added c es)

    pub got_put_other : (es : Entries V S) (c : Claim V S) → got (put es s c) r ≡ got es r
    got_put_other es c = put_cases (λ l. got l r ≡ got es r) es s c (λ a. other_without es) (λ a t. other_replaced c es) (λ a t. other_added c es)

  -- entries apart stay apart
  pub apart_without : (es : Entries V S) (s : Stat) → Apart es → Apart (without es s)
  apart_without [] s h = tt
  apart_without (e ∷ es) s h =
      cond_both
      (same_stat s e.stat)
      (without es s)
      (e ∷ without es s)
      Apart
      (λ t. apart_without es s h.1)
      (λ t. (every_without (λ f. same_stat e.stat f.stat ≡ false) es s h.0, apart_without es s h.1))

  pub apart_retained : (keep : Stat → Bool) (es : Entries V S) → Apart es → Apart (retained keep es)
  apart_retained keep [] h = tt
  apart_retained keep (e ∷ es) h =
      let rest : Apart (retained keep es) = apart_retained keep es h.1 in
      cond_either Apart (keep e.stat) (e ∷ retained keep es) (retained keep es) (every_retained (λ f. same_stat e.stat f.stat ≡ false) keep es h.0, rest) rest

  -- a replaced entry keeps its statistic
  stats_replaced : (P : Stat → Type 0) (es : Entries V S) (s : Stat) (c : Claim V S) → Every (λ e. P e.stat) es → Every (λ e. P e.stat) (replaced es s c)
  stats_replaced P [] s c h = tt
  stats_replaced P (e ∷ es) s c h = (
    cond_both (same_stat s e.stat) (stated s c) e (λ f. P f.stat) (λ t. subst P (sym (same_stat_is s e.stat t)) h.0) (λ t. h.0),
    stats_replaced P es s c h.1,
  )

  apart_replaced : (es : Entries V S) (s : Stat) (c : Claim V S) → Apart es → Apart (replaced es s c)
  apart_replaced [] s c h = tt
  apart_replaced (e ∷ es) s c h =
      let rest = stats_replaced (λ r. same_stat e.stat r ≡ false) es s c h.0 in (
        cond_both
            (same_stat s e.stat)
            (stated s c)
            e
            (λ g. Every (λ f. same_stat g.stat f.stat ≡ false) (replaced es s c))
            (λ t. subst (λ r. Every (λ f. same_stat r f.stat ≡ false) (replaced es s c)) (sym (same_stat_is s e.stat t)) rest)
            (λ t. rest),
        apart_replaced es s c h.1,
      )

  apart_added : (es : Entries V S) (s : Stat) (c : Claim V S) → has es s ≡ false → Apart es → Apart (es ++ (stated s c ∷ []))
  apart_added [] s c n h = (tt, tt)
  apart_added (e ∷ es) s c n h =
      let m = neither (same_stat s e.stat) (has es s) n in
      (All-append (λ f. same_stat e.stat f.stat ≡ false) es (stated s c ∷ []) h.0 (stat_turned s e.stat m.0, tt), apart_added es s c m.1 h.1)

  pub apart_put : (es : Entries V S) (s : Stat) (c : Claim V S) → Apart es → Apart (put es s c)
  apart_put es s c h = put_cases Apart es s c (λ a. apart_without es s h) (λ a t. apart_replaced es s c h) (λ a t. apart_added es s c t h)

-- a set of true claims gives true claims
pub got_holds : {V S : Type 0} (k : Column V S) (rows : List (Row V)) (es : Entries V S) (s : Stat) → AllHold k rows es → ClaimHolds k rows s (got es s)
got_holds k rows es s h = got_every (ClaimHolds k rows) (absent_holds k rows) es h s

-- a claim for each of several statistics, put in one after the other
abbrev pub put_all : {V S : Type 0} → (Stat → Claim V S) → List Stat → Entries V S → Entries V S
put_all f [] es = es
put_all f (s ∷ ss) es = put_all f ss (put es s (f s))

module _ {V S : Type 0} (f : Stat → Claim V S) where
  -- e's statistic is none of these
  abbrev Outside : List Stat → Statement V S → Type 0
  Outside ss e = Every (λ s. same_stat s e.stat ≡ false) ss

  -- what holds of each claim put in, and of every entry of another statistic, holds of every entry
  every_put_all : (P : Statement V S → Type 0) → ((s : Stat) → is_absent (f s) ≡ false → P (stated s (f s))) → (ss : List Stat) (es : Entries V S) → Every (λ e. Outside ss e → P e) es → Every P (put_all f ss es)
  every_put_all P new [] es h = All-weaker (λ e. Outside [] e → P e) P (λ e g. g tt) es h
  every_put_all P new (s ∷ ss) es h = every_put_all P new ss (put es s (f s)) (others_put (λ e. Outside ss e → P e) s (f s) (λ a o. new s a) es curried)
    where
      curried : Every (λ e. same_stat s e.stat ≡ false → Outside ss e → P e) es
      curried = All-weaker (λ e. Outside (s ∷ ss) e → P e) (λ e. same_stat s e.stat ≡ false → Outside ss e → P e) (λ e g n o. g (n, o)) es h

  -- after all nine, what holds of each claim put in holds of every entry
  pub every_put_nine : (P : Statement V S → Type 0) → ((s : Stat) → is_absent (f s) ≡ false → P (stated s (f s))) → (es : Entries V S) → Every P (put_all f all_stats es)
  every_put_nine P new es = every_put_all P new all_stats es (in_every (λ e. Outside all_stats e → P e) es (λ e i. none_outside e))
    where
      none_outside : (e : Statement V S) → Outside all_stats e → P e
      none_outside e o = absurd (true≢false (sym (stat_itself e.stat) ∙ every_in (λ s. same_stat s e.stat ≡ false) e.stat all_stats o (in_all e.stat)))

  -- what `got` gives then: the claim, of each statistic put in or standing so before
  got_put_all : (s : Stat) (ss : List Stat) (es : Entries V S) → In s ss ⊎ (got es s ≡ f s) → got (put_all f ss es) s ≡ f s
  got_put_all s [] es (inl i) = elim i [ ]
  got_put_all s [] es (inr e) = e
  got_put_all s (r ∷ ss) es h = got_put_all s ss (put es r (f r)) (go (same_stat s r) refl h)
    where
      put_in : s ≡ r → got (put es r (f r)) s ≡ f s
      put_in e = subst (λ q. got (put es q (f q)) s ≡ f s) e (got_put es s (f s))

      go : (t : Bool) → same_stat s r ≡ t → In s (r ∷ ss) ⊎ (got es s ≡ f s) → In s ss ⊎ (got (put es r (f r)) s ≡ f s)
      go true d h = inr (put_in (same_stat_is s r d))
      go false d (inl i) = inl (in_rest s r ss d i)
      go false d (inr e) = inr (got_put_other s r d es (f r) ∙ e)

  pub got_put_nine : (es : Entries V S) (s : Stat) → got (put_all f all_stats es) s ≡ f s
  got_put_nine es s = got_put_all s all_stats es (inl (in_all s))

  pub apart_put_all : (ss : List Stat) (es : Entries V S) → Apart es → Apart (put_all f ss es)
  apart_put_all [] es h = h
  apart_put_all (s ∷ ss) es h = apart_put_all ss (put es s (f s)) (apart_put es s (f s) h)
