-- The sets of the zones stay such as `set` can make, along a run.
use Rattle.std.proofs.Common.{◌≡◌, ℕ, Bool, true, List, [], ◌∷◌, drop}
use Rattle.std.proofs.ByRecursion.{All-push}
use Rattle.stat.specs.declared.Stat.{Stat}
use Rattle.rules.specs.Column.{Column}
use Rattle.rules.specs.Rows.{Every}
use Rattle.rules.specs.Claims.{settable}
use Rattle.rules.specs.Sets.{Entries, Proper, without, retained}
use Rattle.rules.specs.Combining.{combined}
use Rattle.book.specs.Book.{Zone, Book, Call, append, close, merge, combine, clear, retain_only, get, seek, with_zone, without_zone, set_changed, zones_changed, open_zone, record_added, joined_zone, zones_joined, after, after_all}
use Rattle.book.specs.Law.{Provided, SetsProper}
use Rattle.rules.proofs.Sets.{every_without as every_cleared, every_retained, apart_without, apart_retained}
use Rattle.rules.proofs.Counted.{counted_proper}
use Rattle.rules.proofs.Taking.{combined_proper}
use Rattle.rules.proofs.Merges.{merged_proper}
use Rattle.book.proofs.Zones.{every_with, every_without}
use Rattle.book.proofs.Steps.{by_append, by_close, by_merge}

module _ {V S : Type 0} (sums : Bool) where
  pub cleared_proper : (es : Entries V S) (s : Stat) → Proper sums es → Proper sums (without es s)
  cleared_proper es s h = record { settable = every_cleared (λ e. settable sums e.stat e.claim ≡ true) es s h.settable; apart = apart_without es s h.apart }

  pub retained_proper : (keep : Stat → Bool) (es : Entries V S) → Proper sums es → Proper sums (retained keep es)
  retained_proper keep es h = record { settable = every_retained (λ e. settable sums e.stat e.claim ≡ true) keep es h.settable; apart = apart_retained keep es h.apart }

  pub proper_set : (f : Entries V S → Entries V S) (n : ℕ) (b : Book V S) → ((es : Entries V S) → Proper sums es → Proper sums (f es)) → SetsProper sums b → SetsProper sums (zones_changed b (with_zone (set_changed f) n b.zones))
  proper_set f n b keeps h = every_with (λ z. Proper sums z.set) (λ z. Proper sums z.set) (set_changed f) n b.zones (λ z ne p. p) (λ z e p. keeps z.set p) h

module _ {V S : Type 0} (k : Column V S) where
  abbrev ZoneProper : Zone V S → Type 0
  ZoneProper z = Proper k.sums.has_sums z.set

  proper_close : (b : Book V S) → SetsProper k.sums.has_sums b → SetsProper k.sums.has_sums (record_added k b)
  proper_close b h = All-push ZoneProper b.zones (open_zone k b) h (counted_proper k (drop b.closed b.rows))

  proper_merge : (in_order : Bool) (a : ℕ) (y : Zone V S) (b : Book V S) → SetsProper k.sums.has_sums b → SetsProper k.sums.has_sums (zones_joined k in_order a y b)
  proper_merge in_order a y b h =
      every_with ZoneProper ZoneProper (joined_zone k in_order y) a (without_zone y.number b.zones) (λ z ne p. p) (λ z e p. merged_proper k in_order z.set y.set p)
      (every_without ZoneProper y.number b.zones h)

module _ {V S : Type 0} (k : Column V S) (row_table record_table : ℕ) where
  pub proper_after : (b : Book V S) (c : Call V S) → Provided k c → SetsProper k.sums.has_sums b → SetsProper k.sums.has_sums (after k row_table record_table b c)
  proper_after b (append row) given h = by_append k row_table record_table (SetsProper k.sums.has_sums) b h row (λ l. h)
  proper_after b close given h = by_close k row_table record_table (SetsProper k.sums.has_sums) b h (λ o r. proper_close k b h)
  proper_after b (merge in_order a c) given h = by_merge k row_table record_table (SetsProper k.sums.has_sums) b h in_order a c (λ x y p q ne. proper_merge k in_order a y b h)
  proper_after b (combine n told) given h = proper_set k.sums.has_sums (combined k told) n b (λ es. combined_proper k told es given.settable) h
  proper_after b (clear n s) given h = proper_set k.sums.has_sums (λ es. without es s) n b (λ es. cleared_proper k.sums.has_sums es s) h
  proper_after b (retain_only n keep) given h = proper_set k.sums.has_sums (retained keep) n b (retained_proper k.sums.has_sums keep) h
  proper_after b (get n s) given h = h
  proper_after b (seek hits skips room) given h = h

  pub proper_after_all : (b : Book V S) (cs : List (Call V S)) → Every (Provided k) cs → SetsProper k.sums.has_sums b → SetsProper k.sums.has_sums (after_all k row_table record_table b cs)
  proper_after_all b [] given h = h
  proper_after_all b (c ∷ cs) given h = proper_after_all (after k row_table record_table b c) cs given.1 (proper_after b c given.0 h)
