-- Sets of AS numbers, as ranges (our choice).
use Rattle.std.specs.Prelude.{ℕ, nat_le, Bool, ◌&&◌, List}
use Rattle.std.specs.List.{list_any}
use Rattle.rs_types.specs.declared.as_range.AsRange.{AsRange}

-- a range has the numbers from its first to its last
abbrev pub is_in_range : ℕ → AsRange → Bool
is_in_range asn range = nat_le range.first asn && nat_le asn range.last

-- whether some range has the number
abbrev pub is_in_ranges : List AsRange → ℕ → Bool
is_in_ranges ranges asn = list_any (is_in_range asn) ranges
