-- A set's two parts as the list of its entries: what a change of the parts makes of the entries.
use Rattle.std.proofs.Common.{◌≡◌, ℕ, ◌+◌, ◌<◌, Bool, true, false, cond, not, ◌&&◌, ◌||◌, ltb, ◌⊎◌, List, [], ◌∷◌, ◌++◌, length, get_or, set, take, filter, sym, refl, ap, ◌∙◌, subst, inl, inr, arith, get_or-set_other, get_or-set_same}
use Rattle.std.proofs.lemmas.Bool.{true≢false, false≢true, cond_both, cond-true, cond-false, lt-ltb, and_parts, and_from, not-true, eqb-true, eqb-false}
use Rattle.std.proofs.lemmas.List.{take_more, map-append}
use Rattle.std.proofs.lemmas.List.Elements.{filter-append}
use Rattle.precision.specs.declared.precision.Precision.{Precision}
use Rattle.precision.specs.declared.precision.Precision.TheVariants.{Exact, Inexact, Absent}
use Rattle.precision.specs.Claims.{is_absent, mapped}
use Rattle.stat.specs.declared.Stat.{Stat}
use Rattle.stat.specs.declared.Stat.TheVariants.{IsConstant, IsSorted, IsStrictSorted, Max, Min, Sum as Total, NullCount, UncompressedSizeInBytes, NaNCount}
use Rattle.stat.specs.Stats.{stat_number, same_stat}
use Rattle.statement.specs.declared.StatValue.TheVariants.{Flag, Element, Sum, Count}
use Rattle.rules.specs.Rows.{Every}
use Rattle.rules.specs.Claims.{settable, may_set}
use Rattle.statement.specs.Kinds.{Claim, stated}
use Rattle.rules.specs.Sets.{Entries, got, has, without, retained, replaced, put, Apart, AllSettable, Proper}
use Rattle.rules.proofs.Claims.{kind_settable}
use Rattle.rules.proofs.Sets.{same_stat_is, stat_itself, neither}
use Rattle.listing.specs.Marks.{marked}
use Rattle.claims.specs.declared.Claims.{Claims}
use Rattle.claims.specs.Entries.{claim_in, with_claim, kept_claims, has_stat, distinct, entries_of, counts}
use Rattle.claims.proofs.Lists.{has_kept, has_added, distinct_kept, distinct_added, room_for}
use Rattle.claims.proofs.Claiming.{number_small, claim_with, claim_kept}

module _ {V S : Type 0} where
  -- what entries tell, and which are there
  got_of : (c : Claims V S) (ts : List Stat) (s : Stat) → got (entries_of c ts) s ≡ cond (has_stat ts s) (claim_in c s) Absent
  got_of c [] s = refl
  got_of c (t ∷ ts) s = go (same_stat s t) refl (got_of c ts s)
    where
      go : (b : Bool) → same_stat s t ≡ b → got (entries_of c ts) s ≡ cond (has_stat ts s) (claim_in c s) Absent → cond b (claim_in c t) (got (entries_of c ts) s) ≡ cond (cond b true (has_stat ts s)) (claim_in c s) Absent
      go true e ih = ap (claim_in c) (sym (same_stat_is s t e))
      go false e ih = ih

  has_of : (c : Claims V S) (ts : List Stat) (s : Stat) → has (entries_of c ts) s ≡ has_stat ts s
  has_of c [] s = refl
  has_of c (t ∷ ts) s = ap (cond (same_stat s t) true) (has_of c ts s)

  -- d has another claim for s
  module _ (c d : Claims V S) (s : Stat) (x : Claim V S) (written : (t : Stat) → claim_in d t ≡ cond (same_stat s t) x (claim_in c t)) where
    of_replaced : (ts : List Stat) → entries_of d ts ≡ replaced (entries_of c ts) s x
    of_replaced [] = refl
    of_replaced (t ∷ ts) = λ i. head (same_stat s t) refl (written t) i ∷ of_replaced ts i
      where
        head : (b : Bool) → same_stat s t ≡ b → claim_in d t ≡ cond b x (claim_in c t) → stated t (claim_in d t) ≡ cond b (stated s x) (stated t (claim_in c t))
        head true e w = ap (stated t) w ∙ ap (λ r. stated r x) (sym (same_stat_is s t e))
        head false e w = ap (stated t) w

    of_others : (ts : List Stat) → has_stat ts s ≡ false → entries_of d ts ≡ entries_of c ts
    of_others [] h = refl
    of_others (t ∷ ts) h = go (same_stat s t) refl (written t) h (of_others ts)
      where
        go : (b : Bool) → same_stat s t ≡ b → claim_in d t ≡ cond b x (claim_in c t) → cond b true (has_stat ts s) ≡ false → (has_stat ts s ≡ false → entries_of d ts ≡ entries_of c ts) → entries_of d (t ∷ ts) ≡ entries_of c (t ∷ ts)
        go true e w h ih = absurd (true≢false h)
        go false e w h ih = λ i. stated t (w i) ∷ ih h i

  -- d has the claims that are kept
  of_kept : (c d : Claims V S) (keep : Stat → Bool) → ((t : Stat) → claim_in d t ≡ cond (keep t) (claim_in c t) Absent) → (ts : List Stat) → entries_of d (filter keep ts) ≡ retained keep (entries_of c ts)
  of_kept c d keep written [] = refl
  of_kept c d keep written (t ∷ ts) = go (keep t) (written t) (of_kept c d keep written ts)
    where
      go : (b : Bool) → claim_in d t ≡ cond b (claim_in c t) Absent → entries_of d (filter keep ts) ≡ retained keep (entries_of c ts) → entries_of d (cond b (t ∷ filter keep ts) (filter keep ts)) ≡ cond b (stated t (claim_in c t) ∷ retained keep (entries_of c ts)) (retained keep (entries_of c ts))
      go true w ih = λ i. stated t (w i) ∷ ih i
      go false w ih = ih

-- two filters, in either order
kept_twice : {X : Type 0} (p q : X → Bool) (xs : List X) → filter p (filter q xs) ≡ filter q (filter p xs)
kept_twice p q [] = refl
kept_twice p q (x ∷ xs) = go (p x) refl (q x) refl (kept_twice p q xs)
  where
    go : (a : Bool) → p x ≡ a → (b : Bool) → q x ≡ b → filter p (filter q xs) ≡ filter q (filter p xs) → filter p (cond b (x ∷ filter q xs) (filter q xs)) ≡ filter q (cond a (x ∷ filter p xs) (filter p xs))
    go true e true f ih = rw e (rw f (ap (λ l. x ∷ l) ih))
    go true e false f ih = rw f ih
    go false e true f ih = rw e ih
    go false e false f ih = ih

-- What ties claims and statistics together: none is listed twice, and those are listed of which there is a claim.
abbrev pub Tied : {V S : Type 0} → Claims V S → List Stat → Type 0
Tied c ss = (distinct ss ≡ true) × ((s : Stat) → has_stat ss s ≡ not (is_absent (claim_in c s)))

module _ {V S : Type 0} (sums : Bool) (c : Claims V S) (ss : List Stat) (tied : Tied c ss) where
  abbrev shown : List Stat
  shown = filter (counts sums) ss

  has_shown : (s : Stat) → has_stat shown s ≡ (counts sums s && not (is_absent (claim_in c s)))
  has_shown s = has_kept (counts sums) ss s ∙ ap (λ b. counts sums s && b) (tied.1 s)

  -- the claim that is told of a statistic that counts is the one that is there
  pub got_shown : (s : Stat) → got (entries_of c shown) s ≡ cond (counts sums s) (claim_in c s) Absent
  got_shown s = got_of c shown s ∙ ap (λ b. cond b (claim_in c s) Absent) (has_shown s) ∙ go (counts sums s) (claim_in c s)
    where
      go : (b : Bool) (x : Claim V S) → cond (b && not (is_absent x)) x Absent ≡ cond b x Absent
      go true (Exact v) = refl
      go true (Inexact v) = refl
      go true Absent = refl
      go false x = refl

  -- a filter of both parts
  module _ (k : List Bool) where
    pub keep_tied : Tied (kept_claims k c) (filter (marked k) ss)
    keep_tied = (distinct_kept (marked k) ss tied.0, λ s. has_kept (marked k) ss s ∙ ap (λ b. marked k s && b) (tied.1 s) ∙ go (marked k s) (claim_in c s) ∙ sym (ap (λ x. not (is_absent x)) (claim_kept k c s)))
      where
        go : (b : Bool) (x : Claim V S) → (b && not (is_absent x)) ≡ not (is_absent (cond b x Absent))
        go true x = refl
        go false x = refl

    pub keep_entries : entries_of (kept_claims k c) (filter (counts sums) (filter (marked k) ss)) ≡ retained (marked k) (entries_of c shown)
    keep_entries = ap (entries_of (kept_claims k c)) (kept_twice (counts sums) (marked k) ss) ∙ of_kept c (kept_claims k c) (marked k) (claim_kept k c) shown

  -- a claim written for a statistic, which is listed last if it was not there
  module _ (s : Stat) (x : Claim V S) (may : may_set sums s x ≡ true) (there : is_absent x ≡ false) (counted : counts sums s ≡ true) where
    abbrev written : Claims V S
    written = with_claim c s x

    abbrev listing : List Stat
    listing = cond (is_absent (claim_in c s)) (ss ++ (s ∷ [])) ss

    told : (t : Stat) → claim_in written t ≡ cond (same_stat s t) x (claim_in c t)
    told = claim_with sums c s x may

    pub put_room : is_absent (claim_in c s) ≡ true → length ss < 9
    put_room a = room_for ss s tied.0 (tied.1 s ∙ ap not a)

    put_once : distinct listing ≡ true
    put_once = cond_both (is_absent (claim_in c s)) (ss ++ (s ∷ [])) ss (λ l. distinct l ≡ true) (λ a. distinct_added ss s tied.0 (tied.1 s ∙ ap not a)) (λ _. tied.0)

    put_present : (t : Stat) → has_stat listing t ≡ not (is_absent (claim_in written t))
    put_present t = go (is_absent (claim_in c s)) refl (same_stat s t) refl ∙ sym (ap (λ y. not (is_absent y)) (told t))
      where
        turned : (b : Bool) → same_stat s t ≡ b → same_stat t s ≡ b
        turned true e = ap (λ r. same_stat r s) (sym (same_stat_is s t e)) ∙ stat_itself s
        turned false e = either (same_stat t s) refl
          where
            either : (b : Bool) → same_stat t s ≡ b → same_stat t s ≡ false
            either true p = absurd (true≢false (sym (ap (λ r. same_stat s r) (same_stat_is t s p) ∙ stat_itself s) ∙ e))
            either false p = p

        go : (a : Bool) → is_absent (claim_in c s) ≡ a → (b : Bool) → same_stat s t ≡ b → has_stat (cond a (ss ++ (s ∷ [])) ss) t ≡ not (is_absent (cond b x (claim_in c t)))
        go true e true f = has_added ss s t ∙ ap (λ b. cond b true (has_stat ss t)) (turned true f) ∙ sym (ap not there)
        go true e false f = has_added ss s t ∙ ap (λ b. cond b true (has_stat ss t)) (turned false f) ∙ tied.1 t
        go false e true f = ap (has_stat ss) (sym (same_stat_is s t f)) ∙ tied.1 s ∙ ap not e ∙ sym (ap not there)
        go false e false f = tied.1 t

    pub put_tied : Tied written listing
    put_tied = (put_once, put_present)

    has_told : has (entries_of c shown) s ≡ not (is_absent (claim_in c s))
    has_told = has_of c shown s ∙ has_shown s ∙ ap (λ b. b && not (is_absent (claim_in c s))) counted

    pub put_entries : entries_of written (filter (counts sums) listing) ≡ put (entries_of c shown) s x
    put_entries =
        cond_both (is_absent (claim_in c s)) (ss ++ (s ∷ [])) ss (λ l. entries_of written (filter (counts sums) l) ≡ put (entries_of c shown) s x)
        (λ a. added a ∙ sym (as_added a)) (λ a. of_replaced c written s x told shown ∙ sym (as_replaced a))
      where
        as_there : put (entries_of c shown) s x ≡ cond (has (entries_of c shown) s) (replaced (entries_of c shown) s x) (entries_of c shown ++ (stated s x ∷ []))
        as_there = cond-false (is_absent x) (without (entries_of c shown) s) _ there

        as_added : is_absent (claim_in c s) ≡ true → put (entries_of c shown) s x ≡ entries_of c shown ++ (stated s x ∷ [])
        as_added a = as_there ∙ cond-false (has (entries_of c shown) s) _ _ (has_told ∙ ap not a)

        as_replaced : is_absent (claim_in c s) ≡ false → put (entries_of c shown) s x ≡ replaced (entries_of c shown) s x
        as_replaced a = as_there ∙ cond-true (has (entries_of c shown) s) _ _ (has_told ∙ ap not a)

        last_told : claim_in written s ≡ x
        last_told = told s ∙ ap (λ b. cond b x (claim_in c s)) (stat_itself s)

        added : is_absent (claim_in c s) ≡ true → entries_of written (filter (counts sums) (ss ++ (s ∷ []))) ≡ entries_of c shown ++ (stated s x ∷ [])
        added a =
            ap (entries_of written) (filter-append (counts sums) ss (s ∷ []) ∙ ap (λ l. shown ++ l) (cond-true (counts sums s) (s ∷ []) [] counted))
            ∙ map-append (λ t. stated t (claim_in written t)) shown (s ∷ [])
            ∙ (λ i. of_others c written s x told shown (has_shown s ∙ ap (λ b. b && not (is_absent (claim_in c s))) counted ∙ ap not a) i ++ (stated s (last_told i) ∷ []))

-- clearing is keeping all the others
pub retained_others : {V S : Type 0} (es : Entries V S) (s : Stat) (keep : Stat → Bool) → ((t : Stat) → keep t ≡ not (same_stat s t)) → retained keep es ≡ without es s
retained_others [] s keep k = refl
retained_others (e ∷ es) s keep k = ap (λ b. cond b (e ∷ retained keep es) (retained keep es)) (k e.stat) ∙ go (same_stat s e.stat) (retained_others es s keep k)
  where
    go : (b : Bool) → retained keep es ≡ without es s → cond (not b) (e ∷ retained keep es) (retained keep es) ≡ cond b (without es s) (e ∷ without es s)
    go true ih = ih
    go false ih = ap (λ l. e ∷ l) ih

-- what holds of each statistic that is listed
listed_every : (P : Stat → Type 0) (ts : List Stat) → ((s : Stat) → has_stat ts s ≡ true → P s) → Every P ts
listed_every P [] h = tt
listed_every P (t ∷ ts) h = (h t (ap (λ b. cond b true (has_stat ts t)) (stat_itself t)), listed_every P ts (λ s e. h s (more (same_stat s t) e)))
  where
    more : (b : Bool) {d : Bool} → d ≡ true → cond b true d ≡ true
    more true e = refl
    more false e = e

-- what a set holds is what a set takes
module _ {V S : Type 0} (sums : Bool) where
  kinds : (c : Claims V S) (s : Stat) → counts sums s ≡ true → is_absent (claim_in c s) ≡ false → settable sums s (claim_in c s) ≡ true
  kinds c IsConstant k a = kind_settable sums IsConstant Flag (λ v. refl) c.is_constant a
  kinds c IsSorted k a = kind_settable sums IsSorted Flag (λ v. refl) c.is_sorted a
  kinds c IsStrictSorted k a = kind_settable sums IsStrictSorted Flag (λ v. refl) c.is_strict_sorted a
  kinds c Max k a = kind_settable sums Max Element (λ v. refl) c.max a
  kinds c Min k a = kind_settable sums Min Element (λ v. refl) c.min a
  kinds c Total k a = kind_settable sums Total Sum (λ v. and_from sums true (summed sums k) refl) c.sum a
    where
      summed : (b : Bool) → (b || false) ≡ true → b ≡ true
      summed true e = refl
      summed false e = e
  kinds c NullCount k a = kind_settable sums NullCount Count (λ v. refl) c.null_count a
  kinds c UncompressedSizeInBytes k a = kind_settable sums UncompressedSizeInBytes Count (λ v. refl) c.uncompressed_size_in_bytes a
  kinds c NaNCount k a = kind_settable sums NaNCount Count (λ v. refl) c.nan_count a

  -- of a list of statistics that all count and are there
  of_settable : (c : Claims V S) (ts : List Stat) → Every (λ s. (counts sums s ≡ true) × (is_absent (claim_in c s) ≡ false)) ts → AllSettable sums (entries_of c ts)
  of_settable c [] h = tt
  of_settable c (t ∷ ts) h = (kinds c t h.0.0 h.0.1, of_settable c ts h.1)

  of_apart : (c : Claims V S) (ts : List Stat) → distinct ts ≡ true → Apart (entries_of c ts)
  of_apart c [] d = tt
  of_apart c (t ∷ ts) d = let parts = and_parts (not (has_stat ts t)) (distinct ts) d in (others ts (not-true (has_stat ts t) parts.0), of_apart c ts parts.1)
    where
      others : (us : List Stat) → has_stat us t ≡ false → Every (λ f. same_stat t f.stat ≡ false) (entries_of c us)
      others [] h = tt
      others (u ∷ us) h = let n = neither (same_stat t u) (has_stat us t) h in (n.0, others us n.1)

  pub shown_proper : (c : Claims V S) (ss : List Stat) → Tied c ss → Proper sums (entries_of c (filter (counts sums) ss))
  shown_proper c ss tied =
      record {
        settable = of_settable c (filter (counts sums) ss) (listed_every (λ s. (counts sums s ≡ true) × (is_absent (claim_in c s) ≡ false)) (filter (counts sums) ss) there);
        apart = of_apart c (filter (counts sums) ss) (distinct_kept (counts sums) ss tied.0);
      }
    where
      there : (s : Stat) → has_stat (filter (counts sums) ss) s ≡ true → (counts sums s ≡ true) × (is_absent (claim_in c s) ≡ false)
      there s h = let parts = and_parts (counts sums s) (not (is_absent (claim_in c s))) (sym (has_shown sums c ss tied s) ∙ h) in (parts.0, not-true (is_absent (claim_in c s)) parts.1)

-- a statistic of which a claim may be set counts
pub may_count : {V S : Type 0} (sums : Bool) (s : Stat) (x : Claim V S) → may_set sums s x ≡ true → is_absent x ≡ false → counts sums s ≡ true
may_count true s x m a = refl
may_count false IsConstant x m a = refl
may_count false IsSorted x m a = refl
may_count false IsStrictSorted x m a = refl
may_count false Max x m a = refl
may_count false Min x m a = refl
may_count false Total (Exact v) m a = m
may_count false Total (Inexact v) m a = m
may_count false Total Absent m a = absurd (true≢false a)
may_count false NullCount x m a = refl
may_count false UncompressedSizeInBytes x m a = refl
may_count false NaNCount x m a = refl

mapped_gone : {A B : Type 0} (f : A → B) (x : Precision A) → is_absent x ≡ true → is_absent (mapped f x) ≡ true
mapped_gone f (Exact v) e = e
mapped_gone f (Inexact v) e = e
mapped_gone f Absent e = refl

-- where there are sums, or no claim of one, every statistic that is listed counts
kept_whole : (p : Stat → Bool) (ss : List Stat) → ((s : Stat) → has_stat ss s ≡ true → p s ≡ true) → filter p ss ≡ ss
kept_whole p [] h = refl
kept_whole p (t ∷ ss) h = cond-true (p t) (t ∷ filter p ss) (filter p ss) (h t (ap (λ b. cond b true (has_stat ss t)) (stat_itself t))) ∙ ap (λ l. t ∷ l) (kept_whole p ss (λ s e. h s (more (same_stat s t) e)))
  where
    more : (b : Bool) {d : Bool} → d ≡ true → cond b true d ≡ true
    more true e = refl
    more false e = e

pub shown_whole : {V S : Type 0} (sums : Bool) (c : Claims V S) (ss : List Stat) → Tied c ss → (sums ≡ true) ⊎ (is_absent c.sum ≡ true) → ss ≡ filter (counts sums) ss
shown_whole sums c ss tied (inl e) = sym (kept_whole (counts sums) ss (λ s h. ap (λ b. b || not (same_stat s Total)) e))
shown_whole {S = S} sums c ss tied (inr a) = sym (kept_whole (counts sums) ss (λ s h. other s (sym (tied.1 s) ∙ h)))
  where
    sum_gone : is_absent (claim_in c Total) ≡ true
    sum_gone = mapped_gone Sum c.sum a

    other : (s : Stat) → not (is_absent (claim_in c s)) ≡ true → counts sums s ≡ true
    other s h = go (same_stat s Total) refl sums
      where
        go : (b : Bool) → same_stat s Total ≡ b → (d : Bool) → (d || not b) ≡ true
        go b e true = refl
        go true e false = absurd (false≢true (sym (ap not sum_gone) ∙ ap (λ t. not (is_absent (claim_in c t))) (sym (same_stat_is s Total e)) ∙ h))
        go false e false = refl

-- The same of parts that are known by equations, as calls leave them.
module _ {V S : Type 0} where
  tied_at : {c d : Claims V S} {ss ts : List Stat} → c ≡ d → ss ≡ ts → Tied d ts → Tied c ss
  tied_at {d = d} {ss = ss} e f t = subst (λ x. Tied x ss) (sym e) (subst (λ l. Tied d l) (sym f) t)

  entries_at : (sums : Bool) {c d : Claims V S} {ss ts : List Stat} → c ≡ d → ss ≡ ts → entries_of c (filter (counts sums) ss) ≡ entries_of d (filter (counts sums) ts)
  entries_at sums e f = λ i. entries_of (e i) (filter (counts sums) (f i))

  module _ (sums : Bool) (c : Claims V S) (ss : List Stat) (tied : Tied c ss) (d : Claims V S) (ts : List Stat) where
    pub kept_after : (k : List Bool) → d ≡ kept_claims k c → ts ≡ filter (marked k) ss → Tied d ts × (entries_of d (filter (counts sums) ts) ≡ retained (marked k) (entries_of c (filter (counts sums) ss)))
    kept_after k e f = (tied_at e f (keep_tied sums c ss tied k), entries_at sums e f ∙ keep_entries sums c ss tied k)

    pub put_after : (s : Stat) (x : Claim V S) → may_set sums s x ≡ true → is_absent x ≡ false → d ≡ with_claim c s x → ts ≡ cond (is_absent (claim_in c s)) (cond (ltb (length ss) 9) (ss ++ (s ∷ [])) ss) ss → Tied d ts × (entries_of d (filter (counts sums) ts) ≡ put (entries_of c (filter (counts sums) ss)) s x)
    put_after s x may there e f =
        let counted = may_count sums s x may there in
        let g : ts ≡ cond (is_absent (claim_in c s)) (ss ++ (s ∷ [])) ss = f ∙ room (is_absent (claim_in c s)) refl in
        (tied_at e g (put_tied sums c ss tied s x may there counted), entries_at sums e g ∙ put_entries sums c ss tied s x may there counted)
      where
        room : (b : Bool) → is_absent (claim_in c s) ≡ b → cond b (cond (ltb (length ss) 9) (ss ++ (s ∷ [])) ss) ss ≡ cond b (ss ++ (s ∷ [])) ss
        room true a = cond-true (ltb (length ss) 9) (ss ++ (s ∷ [])) ss (lt-ltb (length ss) 9 (put_room sums c ss tied s x may there (may_count sums s x may there) a))
        room false a = refl

-- a loop that marks what a list names: the marks of the front of it, and of one more
pub mark_more : (marks : List Bool) (ss : List Stat) (i : ℕ) (d : Stat) → length marks ≡ 9 → i < length ss → ((t : Stat) → marked marks t ≡ has_stat (take i ss) t) → (t : Stat) → marked (set marks (stat_number (get_or ss i d)) true) t ≡ has_stat (take (i + 1) ss) t
mark_more marks ss i d nine h e t = go (same_stat t s) refl ∙ sym (ap (λ l. has_stat l t) (take_more ss i d h) ∙ has_added (take i ss) s t)
  where
    s : Stat
    s = get_or ss i d

    go : (b : Bool) → same_stat t s ≡ b → marked (set marks (stat_number s) true) t ≡ cond b true (has_stat (take i ss) t)
    go true f = ap (λ n. get_or (set marks (stat_number s) true) n false) (eqb-true (stat_number t) (stat_number s) f) ∙ get_or-set_same marks (stat_number s) true false (omega (arith, number_small s, nine))
    go false f = get_or-set_other marks (stat_number s) (stat_number t) true false (eqb-false (stat_number t) (stat_number s) f) ∙ e t

-- two tests that agree keep the same
pub retained_same : {V S : Type 0} (es : Entries V S) (p q : Stat → Bool) → ((t : Stat) → p t ≡ q t) → retained p es ≡ retained q es
retained_same [] p q h = refl
retained_same (e ∷ es) p q h = λ i. cond (h e.stat i) (e ∷ retained_same es p q h i) (retained_same es p q h i)
