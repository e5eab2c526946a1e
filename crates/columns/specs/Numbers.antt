-- What the readers of whole numbers read, in decimal.
use Rattle.std.specs.Int.{w64}
use Rattle.std.specs.Prelude.{ℕ, List, ℤ, Result}
use Rattle.std.specs.declared.num.ParseIntError.{ParseIntError}
use Rattle.std.specs.Str.Parse.{ExplainsSignedError, ExplainsUnsignedError, ParsesSigned, ParsesUnsigned, HasSignedDigitsIfOk, HasUnsignedDigitsIfOk}
use Rattle.std.specs.Result.{result_map_both}

-- r is what `i64` reads of the text
abbrev pub ReadsI64 : List ℕ → Result ℤ ParseIntError → Type 0
ReadsI64 bs r = ParsesSigned w64 10 bs r × ExplainsSignedError 10 bs r × HasSignedDigitsIfOk bs r

-- r is what `u32` reads of the text
abbrev pub ReadsU32 : List ℕ → Result ℕ ParseIntError → Type 0
ReadsU32 bs r = ParsesUnsigned 32 10 bs r × ExplainsUnsignedError 10 bs r × HasUnsignedDigitsIfOk bs r

-- the number of what was read, or the error
abbrev pub numbered : {V N : Type 0} → (V → N) → Result V ParseIntError → Result N ParseIntError
numbered number r = result_map_both number (λ e. e) r
