-- The law of every run on a new index, from its parts.
use Rattle.std.proofs.Common.{◌≡◌, ℕ, ◌+◌, ◌-◌, ◌<◌, ◌≤◌, Bool, true, false, cond, not, ◌&&◌, eqb, ltb, List, [], ◌∷◌, ◌++◌, length, take, drop, set, None, sym, refl, ap, ◌∙◌, subst, arith}
use lib.ListN.{length-replicate}
use Rattle.std.proofs.lemmas.List.{length-set, length-append, length-take-le, length-drop, drop-set-lt, drop-drop, take_at, drop_at, take-append-drop}
use Rattle.std.proofs.lemmas.Bool.{cond-true, cond-false, cond_both, lt-ltb, ltb-false, and_parts}
use Rattle.rules.specs.Column.{Column, ColumnLaws}
use Rattle.rules.specs.Rows.{Row, Every}
use Rattle.rules.specs.Sets.{Entries, got, without, retained}
use Rattle.rules.specs.Merging.{merged}
use Rattle.rules.specs.Combining.{combined, against}
use Rattle.book.specs.Book.{Book, Call, append, close, merge, combine, clear, retain_only, get, seek, usable_cells, usable_records, fresh, after, after_all}
use Rattle.book.specs.Chains.{Filed, record_at, linked_to, with_set, InUse, last_of}
use Rattle.book.specs.Law.{Provided, AllSaidTrue, SetsProper, SetsTrue, written_into, Found, skipped}
use Rattle.book.specs.Sound.{Sound}
use Rattle.book.specs.Replies.{Reply, clear_done, retain_done, claim, found, declines, unless_against, searched_cells, reply, replies, room_of, wrote, all_wrote}
use Rattle.book.specs.State.{State, opened, zone?, set_of, chain_at, with_table, set_put, row_put, set_by, filed, record_put, link_put, state_after, state_reply, state_wrote, state_all, state_replies, state_all_wrote}
use Rattle.book.specs.Keeps.{Keeps}
use Rattle.book.specs.Runs.{Performs, rooms, CallFound, AllFound, RunStands, Runs}
use Rattle.book.proofs.Soundness.{sound_fresh, sound_after}
use Rattle.book.proofs.Properly.{proper_after}
use Rattle.book.proofs.Truthful.{true_after, true_after_all}
use Rattle.book.proofs.Searching.{matching_fit, found_by_skipping}
use Rattle.book.proofs.Tables.{kept_chains, carries_fresh}
use Rattle.book.proofs.Keeping.{is_filled, is_used, zone_there, zone_used, zone_set}
use Rattle.book.proofs.Calling.{append_kept, append_replied, close_kept, close_replied, set_by_kept, if_zone_is, merge_kept, merge_replied, last_in_table}
use Rattle.book.proofs.Finding.{found_are, search_replied}

-- each call
module _ {V S : Type 0} (k : Column V S) {s : State V S} {b : Book V S} (keeps : Keeps s b) where
  pub call_kept : (c : Call V S) → Keeps (state_after k s c) (after k (length s.cells) (length s.table) b c)
  call_kept (append row) = append_kept k keeps row
  call_kept close = close_kept k keeps
  call_kept (merge in_order a c) = merge_kept k keeps in_order a c
  call_kept (combine n told) = set_by_kept k keeps (combined k told) n
  call_kept (clear n st) = set_by_kept k keeps (λ es. without es st) n
  call_kept (retain_only n keep) = set_by_kept k keeps (retained keep) n
  call_kept (get n st) = keeps
  call_kept (seek hits skips room) = keeps

  pub call_replied : (c : Call V S) → state_reply k s c ≡ reply k (length s.cells) (length s.table) b c
  call_replied (append row) = append_replied k keeps row
  call_replied close = close_replied k keeps
  call_replied (merge in_order a c) = merge_replied k keeps in_order a c
  call_replied (combine n told) = if_zone_is k keeps n (unless_against (against k told (set_of s n))) (λ z. unless_against (against k told z.set)) (λ z e. ap (λ es. unless_against (against k told es)) (zone_set keeps n z e))
  call_replied (clear n st) = if_zone_is k keeps n clear_done (λ z. clear_done) (λ z e. refl)
  call_replied (retain_only n keep) = if_zone_is k keeps n retain_done (λ z. retain_done) (λ z e. refl)
  call_replied (get n st) = if_zone_is k keeps n (claim (got (set_of s n) st)) (λ z. claim (got z.set st)) (λ z e. ap (λ es. claim (got es st)) (zone_set keeps n z e))
  call_replied (seek hits skips room) = search_replied keeps hits skips k room

-- what a call owes, from what it does to the tables and answers by them
pub performs : {V S : Type 0} (k : Column V S) (call : Call V S) (s t : State V S) (r : Reply V S) → t ≡ state_after k s call → r ≡ state_reply k s call → Performs k call s t r
performs k call s t r e f =
    record {
      state = e;
      answer = f;
      kept = λ b keeps. subst (λ u. Keeps u (after k (length s.cells) (length s.table) b call)) (sym e) (call_kept k keeps call);
      replied = λ b keeps. f ∙ call_replied k keeps call;
    }

-- No call changes how long the tables are.
module _ {V S : Type 0} (k : Column V S) (s : State V S) where
  set_by_cells : (n : ℕ) (f : Entries V S → Entries V S) → length (set_by s n f).cells ≡ length s.cells
  set_by_cells n f = cond_both (zone? s n) (with_table s (set_put s.table n (f (set_of s n)))) s (λ t. length t.cells ≡ length s.cells) (λ t. refl) (λ t. refl)

  set_by_table : (n : ℕ) (f : Entries V S → Entries V S) → length (set_by s n f).table ≡ length s.table
  set_by_table n f = cond_both (zone? s n) (with_table s (set_put s.table n (f (set_of s n)))) s (λ t. length t.table ≡ length s.table) (λ t. length-set s.table (n - 1) (with_set (record_at s.table n) (f (set_of s n)))) (λ t. refl)

  pub cells_long : (c : Call V S) → length (state_after k s c).cells ≡ length s.cells
  cells_long (append row) = cond_both (ltb s.filled (usable_cells (length s.cells))) (row_put s row) s (λ t. length t.cells ≡ length s.cells) (λ t. length-set s.cells s.filled row) (λ t. refl)
  cells_long close = cond_both (ltb s.closed s.filled && ltb s.used (usable_records (length s.table))) (record_put k s) s (λ t. length t.cells ≡ length s.cells) (λ t. refl) (λ t. refl)
  cells_long (merge in_order a c) = cond_both (zone? s a && (zone? s c && not (eqb a c))) (link_put k in_order a c s) s (λ t. length t.cells ≡ length s.cells) (λ t. refl) (λ t. refl)
  cells_long (combine n told) = set_by_cells n (combined k told)
  cells_long (clear n st) = set_by_cells n (λ es. without es st)
  cells_long (retain_only n keep) = set_by_cells n (retained keep)
  cells_long (get n st) = refl
  cells_long (seek hits skips room) = refl

  pub table_long : (c : Call V S) → length (state_after k s c).table ≡ length s.table
  table_long (append row) = cond_both (ltb s.filled (usable_cells (length s.cells))) (row_put s row) s (λ t. length t.table ≡ length s.table) (λ t. refl) (λ t. refl)
  table_long close = cond_both (ltb s.closed s.filled && ltb s.used (usable_records (length s.table))) (record_put k s) s (λ t. length t.table ≡ length s.table) (λ t. length-set s.table s.used (filed k s)) (λ t. refl)
  table_long (merge in_order a c) =
      let es = merged k in_order (set_of s a) (set_of s c) in
      let table₁ = set_put s.table a es in
      let l = last_of a (chain_at s a) in
      cond_both (zone? s a && (zone? s c && not (eqb a c))) (link_put k in_order a c s) s (λ t. length t.table ≡ length s.table) (λ t. length-set table₁ (l - 1) (linked_to (record_at table₁ l) c) ∙ length-set s.table (a - 1) (with_set (record_at s.table a) es)) (λ t. refl)
  table_long (combine n told) = set_by_table n (combined k told)
  table_long (clear n st) = set_by_table n (λ es. without es st)
  table_long (retain_only n keep) = set_by_table n (retained keep)
  table_long (get n st) = refl
  table_long (seek hits skips room) = refl

-- What lies past the filled cells and the records in use is as it was.
pub record Beyond {V S : Type 0} (cells : List (Row V)) (table : List (Filed V S)) (s : State V S) : Type 0 where
  pub cells_past : drop s.filled s.cells ≡ drop s.filled cells
  pub table_past : drop s.used s.table ≡ drop s.used table

drop_one_more : {X : Type 0} (n : ℕ) (xs ys : List X) → drop n xs ≡ drop n ys → drop (n + 1) xs ≡ drop (n + 1) ys
drop_one_more n xs ys e = sym (drop-drop 1 n xs) ∙ ap (drop 1) e ∙ drop-drop 1 n ys

module _ {V S : Type 0} (k : Column V S) (cells : List (Row V)) (table : List (Filed V S)) {s : State V S} {b : Book V S} (keeps : Keeps s b) (was : Beyond cells table s) where
  -- a record in use written
  past_written : (n : ℕ) (r : Filed V S) → InUse s.used n → drop s.used (set s.table (n - 1) r) ≡ drop s.used table
  past_written n r u = drop-set-lt s.used s.table (n - 1) r (omega (arith, u)) ∙ was.table_past

  set_by_beyond : (n : ℕ) (f : Entries V S → Entries V S) → Beyond cells table (set_by s n f)
  set_by_beyond n f =
      cond_both (zone? s n) (with_table s (set_put s.table n (f (set_of s n)))) s (Beyond cells table)
      (λ t. let z = zone_there keeps n t in record { cells_past = was.cells_past; table_past = past_written n (with_set (record_at s.table n) (f (set_of s n))) (zone_used keeps n z.0 z.1) })
      (λ t. was)

  pub call_beyond : (c : Call V S) → Beyond cells table (state_after k s c)
  call_beyond (append row) =
      cond_both (ltb s.filled (usable_cells (length s.cells))) (row_put s row) s (Beyond cells table)
      (λ t. record { cells_past = drop-set-lt (s.filled + 1) s.cells s.filled row (omega arith) ∙ drop_one_more s.filled s.cells cells was.cells_past; table_past = was.table_past })
      (λ t. was)
  call_beyond close =
      cond_both (ltb s.closed s.filled && ltb s.used (usable_records (length s.table))) (record_put k s) s (Beyond cells table)
      (λ t. record { cells_past = was.cells_past; table_past = drop-set-lt (s.used + 1) s.table s.used (filed k s) (omega arith) ∙ drop_one_more s.used s.table table was.table_past })
      (λ t. was)
  call_beyond (merge in_order a c) =
      cond_both (zone? s a && (zone? s c && not (eqb a c))) (link_put k in_order a c s) s (Beyond cells table)
      (λ t.
      let z = zone_there keeps a (and_parts (zone? s a) (zone? s c && not (eqb a c)) t).0 in
      let es = merged k in_order (set_of s a) (set_of s c) in
      let table₁ = set_put s.table a es in
      let l = last_of a (chain_at s a) in
      let u = last_in_table keeps a z.0 z.1 in
      record { cells_past = was.cells_past; table_past = drop-set-lt s.used table₁ (l - 1) (linked_to (record_at table₁ l) c) (omega (arith, u)) ∙ past_written a (with_set (record_at s.table a) es) (zone_used keeps a z.0 z.1) })
      (λ t. was)
  call_beyond (combine n told) = set_by_beyond n (combined k told)
  call_beyond (clear n st) = set_by_beyond n (λ es. without es st)
  call_beyond (retain_only n keep) = set_by_beyond n (retained keep)
  call_beyond (get n st) = was
  call_beyond (seek hits skips room) = was

-- a search's part
module _ {V S : Type 0} {s : State V S} {b : Book V S} (keeps : Keeps s b) where
  pub call_wrote : (c : Call V S) (part : List ℕ) → state_wrote s c part ≡ wrote b c part
  call_wrote (append row) part = refl
  call_wrote close part = refl
  call_wrote (merge in_order a c) part = refl
  call_wrote (combine n told) part = refl
  call_wrote (clear n st) part = refl
  call_wrote (retain_only n keep) part = refl
  call_wrote (get n st) part = refl
  call_wrote (seek hits skips room) part =
      ap (λ l. cond (ltb room s.closed) part (written_into part l)) (found_are keeps hits skips)
      ∙ ap (λ n. cond (ltb room n) part (written_into part (searched_cells hits skips b))) keeps.carries.closes

-- a list of calls
module _ {V S : Type 0} (k : Column V S) (row_table record_table : ℕ) where
  step_kept : (s : State V S) (b : Book V S) (c : Call V S) → length s.cells ≡ row_table → length s.table ≡ record_table → Keeps s b → Keeps (state_after k s c) (after k row_table record_table b c)
  step_kept s b c e f keeps =
      subst (λ n. Keeps (state_after k s c) (after k row_table n b c)) f (subst (λ n. Keeps (state_after k s c) (after k n (length s.table) b c)) e (call_kept k keeps c))

  pub run_kept : (s : State V S) (b : Book V S) (cs : List (Call V S)) → length s.cells ≡ row_table → length s.table ≡ record_table → Keeps s b → Keeps (state_all k s cs) (after_all k row_table record_table b cs)
  run_kept s b [] e f keeps = keeps
  run_kept s b (c ∷ cs) e f keeps = run_kept (state_after k s c) (after k row_table record_table b c) cs (cells_long k s c ∙ e) (table_long k s c ∙ f) (step_kept s b c e f keeps)

  pub run_replied : (s : State V S) (b : Book V S) (cs : List (Call V S)) → length s.cells ≡ row_table → length s.table ≡ record_table → Keeps s b → state_replies k s cs ≡ replies k row_table record_table b cs
  run_replied s b [] e f keeps = refl
  run_replied s b (c ∷ cs) e f keeps =
      let same : state_reply k s c ≡ reply k row_table record_table b c = call_replied k keeps c ∙ ap (λ n. reply k n (length s.table) b c) e ∙ ap (λ n. reply k row_table n b c) f in
      ap (λ r. r ∷ state_replies k (state_after k s c) cs) same
      ∙ ap (λ rs. reply k row_table record_table b c ∷ rs) (run_replied (state_after k s c) (after k row_table record_table b c) cs (cells_long k s c ∙ e) (table_long k s c ∙ f) (step_kept s b c e f keeps))

  pub run_wrote : (s : State V S) (b : Book V S) (cs : List (Call V S)) (buffer : List ℕ) → length s.cells ≡ row_table → length s.table ≡ record_table → Keeps s b → state_all_wrote k s cs buffer ≡ all_wrote k row_table record_table b cs buffer
  run_wrote s b [] buffer e f keeps = refl
  run_wrote s b (c ∷ cs) buffer e f keeps =
      ap (λ l. l ++ state_all_wrote k (state_after k s c) cs (drop (room_of c) buffer)) (call_wrote keeps c (take (room_of c) buffer))
      ∙ ap (λ l. wrote b c (take (room_of c) buffer) ++ l) (run_wrote (state_after k s c) (after k row_table record_table b c) cs (drop (room_of c) buffer) (cells_long k s c ∙ e) (table_long k s c ∙ f) (step_kept s b c e f keeps))

  pub run_beyond : (cells : List (Row V)) (table : List (Filed V S)) (s : State V S) (b : Book V S) (cs : List (Call V S)) → length s.cells ≡ row_table → length s.table ≡ record_table → Keeps s b → Beyond cells table s → Beyond cells table (state_all k s cs)
  run_beyond cells table s b [] e f keeps was = was
  run_beyond cells table s b (c ∷ cs) e f keeps was =
      run_beyond cells table (state_after k s c) (after k row_table record_table b c) cs (cells_long k s c ∙ e) (table_long k s c ∙ f) (step_kept s b c e f keeps) (call_beyond k cells table keeps was c)

-- What is written into a part that has room leaves it as long as it was.
pub length_written : (part cells : List ℕ) → length cells ≤ length part → length (written_into part cells) ≡ length part
length_written part cells l = omega (arith, length-append cells (drop (length cells) part), length-drop (length cells) part)

-- Every search of a run finds what there is to be found.
module _ {V S : Type 0} (k : Column V S) (laws : ColumnLaws k) (row_table record_table : ℕ) where
  searched_fit : (hits : Row V → Bool) (skips : Entries V S → Bool) (b : Book V S) → Sound b → SetsProper k.sums.has_sums b → SetsTrue k b → Provided k (seek hits skips 0) → length (searched_cells hits skips b) ≤ b.closed
  searched_fit hits skips b sound proper truth honest =
      let f = found_by_skipping hits b k skips honest sound proper truth [] in
      omega (arith, f.counted, matching_fit hits b sound)

  search_found : (hits : Row V → Bool) (skips : Entries V S → Bool) (room : ℕ) (b : Book V S) → Sound b → SetsProper k.sums.has_sums b → SetsTrue k b → Provided k (seek hits skips room) → (part : List ℕ) → CallFound k row_table record_table b (seek hits skips room) part (wrote b (seek hits skips room) part)
  search_found hits skips room b sound proper truth honest part = (taken, refused)
    where
      cells : List ℕ
      cells = searched_cells hits skips b

      test : Bool
      test = ltb room b.closed

      answer : Reply V S
      answer = found (length cells) (skipped skips b.zones)

      refused : room < b.closed → wrote b (seek hits skips room) part ≡ part
      refused l = cond-true test part (written_into part cells) (lt-ltb room b.closed l)

      by_test : (t : Bool) → test ≡ t → (matches passed : ℕ) → reply k row_table record_table b (seek hits skips room) ≡ found matches passed → Found hits skips b part (wrote b (seek hits skips room) part) matches passed
      by_test true t matches passed e =
          let no : declines 8 None ≡ found matches passed = sym (cond-true test (declines 8 None) answer t) ∙ e in
          absurd (let z : ◌≡◌ {A = ℕ} 0 1 = cc in omega arith)
      by_test false t matches passed e =
          let yes : answer ≡ found matches passed = sym (cond-false test (declines 8 None) answer t) ∙ e in
          let m : length cells ≡ matches = cc in
          let p : skipped skips b.zones ≡ passed = cc in
          subst (λ n. Found hits skips b part (wrote b (seek hits skips room) part) n passed) m
          (subst (λ n. Found hits skips b part (wrote b (seek hits skips room) part) (length cells) n) p
          (subst (λ l. Found hits skips b part l (length cells) (skipped skips b.zones)) (sym (cond-false test part (written_into part cells) t)) (found_by_skipping hits b k skips honest sound proper truth part)))

      taken : (matches passed : ℕ) → reply k row_table record_table b (seek hits skips room) ≡ found matches passed → Found hits skips b part (wrote b (seek hits skips room) part) matches passed
      taken = by_test test refl

  call_found : (c : Call V S) (b : Book V S) → Sound b → SetsProper k.sums.has_sums b → SetsTrue k b → Provided k c → (part : List ℕ) → CallFound k row_table record_table b c part (wrote b c part)
  call_found (append row) b sound proper truth given part = refl
  call_found close b sound proper truth given part = refl
  call_found (merge in_order a c) b sound proper truth given part = refl
  call_found (combine n told) b sound proper truth given part = refl
  call_found (clear n st) b sound proper truth given part = refl
  call_found (retain_only n keep) b sound proper truth given part = refl
  call_found (get n st) b sound proper truth given part = refl
  call_found (seek hits skips room) b sound proper truth given part = search_found hits skips room b sound proper truth given part

  wrote_long : (c : Call V S) (b : Book V S) → Sound b → SetsProper k.sums.has_sums b → SetsTrue k b → Provided k c → (part : List ℕ) → room_of c ≤ length part → length (wrote b c part) ≡ length part
  wrote_long (append row) b sound proper truth given part l = refl
  wrote_long close b sound proper truth given part l = refl
  wrote_long (merge in_order a c) b sound proper truth given part l = refl
  wrote_long (combine n told) b sound proper truth given part l = refl
  wrote_long (clear n st) b sound proper truth given part l = refl
  wrote_long (retain_only n keep) b sound proper truth given part l = refl
  wrote_long (get n st) b sound proper truth given part l = refl
  wrote_long (seek hits skips room) b sound proper truth given part l =
      cond_both (ltb room b.closed) part (written_into part (searched_cells hits skips b)) (λ w. length w ≡ length part) (λ t. refl)
      (λ t. length_written part (searched_cells hits skips b) (omega (arith, ltb-false room b.closed t, searched_fit hits skips b sound proper truth given)))

  pub run_found : (b : Book V S) (cs : List (Call V S)) → Sound b → SetsProper k.sums.has_sums b → SetsTrue k b → Every (Provided k) cs → AllSaidTrue k row_table record_table b cs → (buffer : List ℕ) → rooms cs ≤ length buffer → AllFound k row_table record_table b cs buffer (all_wrote k row_table record_table b cs buffer)
  run_found b [] sound proper truth given said buffer l = refl
  run_found b (c ∷ cs) sound proper truth given said buffer l =
      let n = room_of c in
      let b' = after k row_table record_table b c in
      let part = take n buffer in
      let rest = all_wrote k row_table record_table b' cs (drop n buffer) in
      let fit : length part ≡ n = length-take-le n buffer (omega arith) in
      let long : length (wrote b c part) ≡ n = wrote_long c b sound proper truth given.0 part (omega arith) ∙ fit in (
        subst (CallFound k row_table record_table b c part) (sym (take_at (wrote b c part) rest n long)) (call_found c b sound proper truth given.0 part),
        subst (AllFound k row_table record_table b' cs (drop n buffer)) (sym (drop_at (wrote b c part) rest n long))
            (run_found b' cs (sound_after k row_table record_table b c sound) (proper_after k row_table record_table b c given.0 proper) (true_after k laws row_table record_table b c sound proper said.0 truth) given.1 said.1 (drop n buffer) (omega (arith, length-drop n buffer))),
      )

-- the tables as they come keep the book of a new index
pub keeps_opened : {V S : Type 0} (cells : List (Row V)) (table : List (Filed V S)) → Keeps (opened cells table) fresh
keeps_opened cells table =
    record {
      sound = sound_fresh;
      fits = record { rows = omega arith; records = omega arith };
      carries = carries_fresh cells table _;
      flags = length-replicate 1024 false;
      sets = tt;
    }

pub run_stands : {V S : Type 0} (k : Column V S) → ColumnLaws k → (calls : List (Call V S)) → Every (Provided k) calls → (cells : List (Row V)) (table : List (Filed V S)) (buffer : List ℕ) → rooms calls ≤ length buffer →
    RunStands k calls cells (state_all k (opened cells table) calls).cells table (state_all k (opened cells table) calls).table (state_replies k (opened cells table) calls) buffer (state_all_wrote k (opened cells table) calls buffer) (after_all k (length cells) (length table) fresh calls)
run_stands k laws calls given cells table buffer room =
    let R = length cells in
    let T = length table in
    let s = opened cells table in
    let b = after_all k R T fresh calls in
    let t = state_all k s calls in
    let keeps = run_kept k R T s fresh calls refl refl (keeps_opened cells table) in
    let beyond = run_beyond k R T cells table s fresh calls refl refl (keeps_opened cells table) (record { cells_past = refl; table_past = refl }) in
    let out = run_wrote k R T s fresh calls buffer refl refl (keeps_opened cells table) in
    record {
      book = refl;
      rows = sym (take-append-drop t.filled t.cells) ∙ ap (λ l. l ++ drop t.filled t.cells) keeps.carries.rows ∙ ap (λ l. b.rows ++ l) (beyond.cells_past ∙ ap (λ n. drop n cells) (is_filled keeps));
      unused = ap (λ n. drop n t.table) (sym (is_used keeps)) ∙ beyond.table_past ∙ ap (λ n. drop n table) (is_used keeps);
      answered = run_replied k R T s fresh calls refl refl (keeps_opened cells table);
      sets = keeps.sets;
      truth = λ said. true_after_all k laws R T fresh calls sound_fresh tt given said tt;
      chains = kept_chains keeps.carries keeps.sound;
      written = out;
      finds = λ said. subst (AllFound k R T fresh calls buffer) (sym out) (run_found k laws R T fresh calls sound_fresh tt tt given said buffer room);
    }

-- what a run owes, from what it does to the tables, the answers and the buffer
pub runs : {V S : Type 0} (k : Column V S) → ColumnLaws k → (calls : List (Call V S)) → Every (Provided k) calls → (cells cells' : List (Row V)) (table table' : List (Filed V S)) (answers : List (Reply V S)) (buffer buffer' : List ℕ) → rooms calls ≤ length buffer →
    cells' ≡ (state_all k (opened cells table) calls).cells → table' ≡ (state_all k (opened cells table) calls).table → answers ≡ state_replies k (opened cells table) calls → buffer' ≡ state_all_wrote k (opened cells table) calls buffer →
    Runs k calls cells cells' table table' answers buffer buffer'
runs k laws calls given cells cells' table table' answers buffer buffer' room e f g h =
    let b = after_all k (length cells) (length table) fresh calls in
    record {
      cells_are = e;
      table_is = f;
      stands =
          subst (λ c. RunStands k calls cells c table table' answers buffer buffer' b) (sym e)
          (subst (λ t. RunStands k calls cells (state_all k (opened cells table) calls).cells table t answers buffer buffer' b) (sym f)
          (subst (λ r. RunStands k calls cells (state_all k (opened cells table) calls).cells table (state_all k (opened cells table) calls).table r buffer buffer' b) (sym g)
          (subst (λ o. RunStands k calls cells (state_all k (opened cells table) calls).cells table (state_all k (opened cells table) calls).table (state_replies k (opened cells table) calls) buffer o b) (sym h)
          (run_stands k laws calls given cells table buffer room))));
    }
