-- AS numbers by bits: 64 of them in each word (our choice).
use Rattle.std.specs.Prelude.{◌≡◌, ◌<◌, ◌/◌, ◌%◌, ◌==◌, ℕ, Bool, List, length, slice_index_or}
use Rattle.std.specs.Int.{bit_at}
use Rattle.rs_types.specs.declared.as_range.AsRange.{AsRange}
use Rattle.rs_import.specs.AsRanges.{is_in_ranges}

-- whether the bit of a number is set; of one behind the last word it is not
abbrev pub has_bit : List ℕ → ℕ → Bool
has_bit words number = bit_at (slice_index_or words (number / 64) 0) (number % 64) == 1

-- the bit of each number that has one says whether some range has the number
abbrev pub AreBits : List AsRange → List ℕ → Type 0
AreBits ranges words = (asn : ℕ) → asn / 64 < length words → has_bit words asn ≡ is_in_ranges ranges asn
