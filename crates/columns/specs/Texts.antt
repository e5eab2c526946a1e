-- How a mark is written and read: `LOT:PIECE`.
use Rattle.std.specs.Prelude.{◌≡◌, ℕ, List, ◌++◌, Ok, Err, codes, decimal, Result}
use Rattle.std.specs.declared.num.ParseIntError.{ParseIntError}
use Rattle.columns.specs.declared.mark.Mark.{Mark}
use Rattle.columns.specs.declared.mark.ParseMarkError.{ParseMarkError}
use Rattle.columns.specs.declared.mark.ParseMarkError.TheVariants.{NoColon, Lot, Piece}
use Rattle.columns.specs.Marks.{mark}
use Rattle.statement.specs.Parting.{Parted}
use Rattle.columns.specs.Numbers.{ReadsU32}

abbrev pub mark_text : Mark → List ℕ
mark_text m = decimal m.lot ++ (codes ":" ++ decimal m.piece)

-- a mark of the two numbers, or why there is none
abbrev pub mark_of : Result ℕ ParseIntError → Result ℕ ParseIntError → Result Mark ParseMarkError
mark_of (Ok lot) (Ok piece) = Ok (mark lot piece)
mark_of (Ok lot) (Err e) = Err (Piece e)
mark_of (Err e) piece = Err (Lot e)

-- the two parts are read as numbers
abbrev pub ReadsParts : List ℕ → List ℕ → Result Mark ParseMarkError → Type 0
ReadsParts before behind r =
    (lot : Result ℕ ParseIntError) × (piece : Result ℕ ParseIntError) × ReadsU32 before lot × ReadsU32 behind piece × (r ≡ mark_of lot piece)

-- a text is parted at its first `:`, whose code is 58
abbrev pub ReadsMark : List ℕ → Result Mark ParseMarkError → Type 0
ReadsMark = Parted 58 (λ r. r ≡ Err NoColon) ReadsParts
