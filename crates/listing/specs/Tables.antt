-- Tables of nine entries.
use Rattle.std.specs.Prelude.{ℕ, List, slice_index_or}

-- R holds of the entries of two tables, place by place
abbrev pub AtEach : {T : Type 0} → (T → T → Type 0) → List T → List T → Type 0
AtEach {T} R xs ys = at 0 × at 1 × at 2 × at 3 × at 4 × at 5 × at 6 × at 7 × at 8
  where
    at : ℕ → Type 0
    at i = (d : T) → R (slice_index_or xs i d) (slice_index_or ys i d)
