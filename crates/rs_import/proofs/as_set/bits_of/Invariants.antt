use Rattle.std.proofs.Common.{◌≡◌, ◌+◌, ◌<◌, ◌/◌, ◌&&◌, ℕ, length, take}
use Rattle.std.specs.Prelude.{nat_le}
use Rattle.rs_import.specs.AsRanges.{is_in_ranges}
use Rattle.rs_import.specs.Bits.{has_bit}
use Rattle.rs_import.specs.Reaches.{IsReach}
use Rattle.rs_import.proofs.as_set.bits_of.Given as goal

-- how far the ranges so far reach, and the bits of their numbers are set up to the last number with a bit
abbrev pub invariant-loop-range : goal.invariant-loop-range
invariant-loop-range l =
    (l.range-index ≡ 0 → l.reach ≡ 0)
    × (0 < l.range-index → IsReach l.ranges l.range-index l.reach)
    × (length l.bits.words.items ≡ l.last / 64 + 1)
    × ((asn : ℕ) → has_bit l.bits.words.items asn ≡ (is_in_ranges (take l.range-index l.ranges) asn && nat_le asn l.last))
