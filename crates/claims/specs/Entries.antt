-- A set's claims by statistic, and its entries in the order of first setting.
use Rattle.std.specs.Prelude.{Bool, true, false, cond, not, ◌&&◌, ◌||◌, List, [], ◌∷◌, map, slice_index_or}
use Rattle.precision.specs.declared.precision.Precision.{Precision}
use Rattle.precision.specs.declared.precision.Precision.TheVariants.{Absent}
use Rattle.precision.specs.Claims.{mapped}
use Rattle.stat.specs.declared.Stat.{Stat}
use Rattle.stat.specs.declared.Stat.TheVariants.{IsConstant, IsSorted, IsStrictSorted, Max, Min, Sum as Total, NullCount, UncompressedSizeInBytes, NaNCount}
use Rattle.stat.specs.Stats.{stat_number, same_stat}
use Rattle.statement.specs.declared.StatValue.TheVariants.{Flag, Element, Sum, Count}
use Rattle.statement.specs.Kinds.{Claim, flag_claim, element_claim, sum_claim, count_claim, stated}
use Rattle.rules.specs.Sets.{Entries}
use Rattle.listing.specs.Marks.{marked}
use Rattle.claims.specs.declared.Claims.{Claims}

-- the nine claims, by rising number
abbrev pub claims_list : {V S : Type 0} → Claims V S → List (Claim V S)
claims_list c =
    mapped Flag c.is_constant ∷ mapped Flag c.is_sorted ∷ mapped Flag c.is_strict_sorted ∷ mapped Element c.max ∷ mapped Element c.min ∷ mapped Sum c.sum ∷ mapped Count c.null_count ∷ mapped Count c.uncompressed_size_in_bytes ∷ mapped Count c.nan_count ∷ []

abbrev pub claim_in : {V S : Type 0} → Claims V S → Stat → Claim V S
claim_in c s = slice_index_or (claims_list c) (stat_number s) Absent

-- the claims with another one for a statistic, read by the statistic's kind
abbrev pub with_claim : {V S : Type 0} → Claims V S → Stat → Claim V S → Claims V S
with_claim c IsConstant x = record { is_constant = flag_claim x; is_sorted = c.is_sorted; is_strict_sorted = c.is_strict_sorted; max = c.max; min = c.min; sum = c.sum; null_count = c.null_count; uncompressed_size_in_bytes = c.uncompressed_size_in_bytes; nan_count = c.nan_count }
with_claim c IsSorted x = record { is_constant = c.is_constant; is_sorted = flag_claim x; is_strict_sorted = c.is_strict_sorted; max = c.max; min = c.min; sum = c.sum; null_count = c.null_count; uncompressed_size_in_bytes = c.uncompressed_size_in_bytes; nan_count = c.nan_count }
with_claim c IsStrictSorted x = record { is_constant = c.is_constant; is_sorted = c.is_sorted; is_strict_sorted = flag_claim x; max = c.max; min = c.min; sum = c.sum; null_count = c.null_count; uncompressed_size_in_bytes = c.uncompressed_size_in_bytes; nan_count = c.nan_count }
with_claim c Max x = record { is_constant = c.is_constant; is_sorted = c.is_sorted; is_strict_sorted = c.is_strict_sorted; max = element_claim x; min = c.min; sum = c.sum; null_count = c.null_count; uncompressed_size_in_bytes = c.uncompressed_size_in_bytes; nan_count = c.nan_count }
with_claim c Min x = record { is_constant = c.is_constant; is_sorted = c.is_sorted; is_strict_sorted = c.is_strict_sorted; max = c.max; min = element_claim x; sum = c.sum; null_count = c.null_count; uncompressed_size_in_bytes = c.uncompressed_size_in_bytes; nan_count = c.nan_count }
with_claim c Total x = record { is_constant = c.is_constant; is_sorted = c.is_sorted; is_strict_sorted = c.is_strict_sorted; max = c.max; min = c.min; sum = sum_claim x; null_count = c.null_count; uncompressed_size_in_bytes = c.uncompressed_size_in_bytes; nan_count = c.nan_count }
with_claim c NullCount x = record { is_constant = c.is_constant; is_sorted = c.is_sorted; is_strict_sorted = c.is_strict_sorted; max = c.max; min = c.min; sum = c.sum; null_count = count_claim x; uncompressed_size_in_bytes = c.uncompressed_size_in_bytes; nan_count = c.nan_count }
with_claim c UncompressedSizeInBytes x = record { is_constant = c.is_constant; is_sorted = c.is_sorted; is_strict_sorted = c.is_strict_sorted; max = c.max; min = c.min; sum = c.sum; null_count = c.null_count; uncompressed_size_in_bytes = count_claim x; nan_count = c.nan_count }
with_claim c NaNCount x = record { is_constant = c.is_constant; is_sorted = c.is_sorted; is_strict_sorted = c.is_strict_sorted; max = c.max; min = c.min; sum = c.sum; null_count = c.null_count; uncompressed_size_in_bytes = c.uncompressed_size_in_bytes; nan_count = count_claim x }

-- the claims that are marked, by number; the others absent
abbrev pub if_kept : {A : Type 0} → Bool → Precision A → Precision A
if_kept b c = cond b c Absent

abbrev pub kept_claims : {V S : Type 0} → List Bool → Claims V S → Claims V S
kept_claims k c = record { is_constant = if_kept (marked k IsConstant) c.is_constant; is_sorted = if_kept (marked k IsSorted) c.is_sorted; is_strict_sorted = if_kept (marked k IsStrictSorted) c.is_strict_sorted; max = if_kept (marked k Max) c.max; min = if_kept (marked k Min) c.min; sum = if_kept (marked k Total) c.sum; null_count = if_kept (marked k NullCount) c.null_count; uncompressed_size_in_bytes = if_kept (marked k UncompressedSizeInBytes) c.uncompressed_size_in_bytes; nan_count = if_kept (marked k NaNCount) c.nan_count }

abbrev pub has_stat : List Stat → Stat → Bool
has_stat [] s = false
has_stat (t ∷ ts) s = cond (same_stat s t) true (has_stat ts s)

abbrev pub distinct : List Stat → Bool
distinct [] = true
distinct (t ∷ ts) = not (has_stat ts t) && distinct ts

-- the statistics of a list, each with its claim
abbrev pub entries_of : {V S : Type 0} → Claims V S → List Stat → Entries V S
entries_of c = map (λ s. stated s (claim_in c s))

-- a sum counts only where there are sums
abbrev pub counts : Bool → Stat → Bool
counts has_sums s = has_sums || not (same_stat s Total)
