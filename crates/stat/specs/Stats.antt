-- The nine statistics: their numbers and names.
use Rattle.std.specs.Prelude.{◌≡◌, ◌≢◌, ℕ, Bool, true, false, List, [], ◌∷◌, codes, ◌==◌, Result, MatchResult}
use Rattle.stat.specs.declared.Stat.{Stat}
use Rattle.stat.specs.declared.ParseStatError.{ParseStatError}
use Rattle.stat.specs.declared.Stat.TheVariants.{IsConstant, IsSorted, IsStrictSorted, Max, Min, Sum, NullCount, UncompressedSizeInBytes, NaNCount}

abbrev pub stat_number : Stat → ℕ
stat_number IsConstant = 0
stat_number IsSorted = 1
stat_number IsStrictSorted = 2
stat_number Max = 3
stat_number Min = 4
stat_number Sum = 5
stat_number NullCount = 6
stat_number UncompressedSizeInBytes = 7
stat_number NaNCount = 8

abbrev pub same_stat : Stat → Stat → Bool
same_stat s r = stat_number s == stat_number r

-- whether a merge of it needs no order of the parts
abbrev pub commutes : Stat → Bool
commutes IsConstant = true
commutes IsSorted = false
commutes IsStrictSorted = false
commutes Max = true
commutes Min = true
commutes Sum = true
commutes NullCount = true
commutes UncompressedSizeInBytes = true
commutes NaNCount = true

abbrev pub stat_name : Stat → List ℕ
stat_name IsConstant = codes "is_constant"
stat_name IsSorted = codes "is_sorted"
stat_name IsStrictSorted = codes "is_strict_sorted"
stat_name Max = codes "max"
stat_name Min = codes "min"
stat_name Sum = codes "sum"
stat_name NullCount = codes "null_count"
stat_name UncompressedSizeInBytes = codes "uncompressed_size_in_bytes"
stat_name NaNCount = codes "nan_count"

abbrev pub all_stats : List Stat
all_stats = IsConstant ∷ IsSorted ∷ IsStrictSorted ∷ Max ∷ Min ∷ Sum ∷ NullCount ∷ UncompressedSizeInBytes ∷ NaNCount ∷ []

-- a text is read as the statistic whose name it is, and where it is no name as none
abbrev pub ReadsStat : List ℕ → Result Stat ParseStatError → Type 0
ReadsStat name r = MatchResult r (λ s. name ≡ stat_name s) (λ _. (s : Stat) → name ≢ stat_name s)
