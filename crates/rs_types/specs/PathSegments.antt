-- The segments that the value of an AS_PATH spells (RFC 4271, section 4.3; RFC 6793).
use Rattle.std.specs.Prelude.{◌≡◌, ℕ, ◌*◌, ◌^◌, ◌<◌, ◌≤◌, nat_lt, ◌==◌, List, [], ◌∷◌, length, drop}
use Rattle.std.specs.Prelude.{Option, Some, None, if◌then◌else◌}
use Rattle.std.specs.List.{flat_map, AllByRecursion}
use Rattle.byteorder.specs.Endian.{big_bytes}
use Rattle.rs_types.specs.Numbers.{numbers_at}
use Rattle.rs_types.specs.PathAttributes.{PathSegment, AsSet, AsSequence}
use Rattle.rs_types.specs.Parts.{parts_of}

abbrev pub AS_SET : ℕ
AS_SET = 1

abbrev pub AS_SEQUENCE : ℕ
AS_SEQUENCE = 2

-- AS numbers, four octets each
abbrev pub spelled_numbers : List ℕ → List ℕ
spelled_numbers numbers = flat_map (big_bytes 4) numbers

-- a segment is spelled as its type, the count of its AS numbers, and the AS numbers
abbrev pub spelled_segment : PathSegment → List ℕ
spelled_segment (AsSet numbers) = AS_SET ∷ length numbers ∷ spelled_numbers numbers
spelled_segment (AsSequence numbers) = AS_SEQUENCE ∷ length numbers ∷ spelled_numbers numbers

-- a segment has 1 to 255 AS numbers, and each fits four octets
pub record AreAsNumbers (numbers : List ℕ) : Type 0 where
  pub some : 0 < length numbers
  pub most : length numbers ≤ 255
  pub each : AllByRecursion (λ number. number < 2 ^ 32) numbers

abbrev pub IsSegment : PathSegment → Type 0
IsSegment (AsSet numbers) = AreAsNumbers numbers
IsSegment (AsSequence numbers) = AreAsNumbers numbers

-- octets spell a segment that has at least one AS number
abbrev pub SpellsSegment : List ℕ → PathSegment → Type 0
SpellsSegment octets segment = (octets ≡ spelled_segment segment) × IsSegment segment

-- the segment that the octets begin with, and the octets behind it
unfoldable pub segment_at : List ℕ → Option (PathSegment × List ℕ)
segment_at [] = None
segment_at (kind ∷ []) = None
segment_at (kind ∷ count ∷ octets) =
    if count == 0 then None
    else if nat_lt (length octets) (4 * count) then None
    else if kind == AS_SET then Some (AsSet (numbers_at count octets), drop (4 * count) octets)
    else if kind == AS_SEQUENCE then Some (AsSequence (numbers_at count octets), drop (4 * count) octets)
    else None

-- the segments of a value, and the octets that are left over; a value with octets left over is at fault
abbrev pub segments_of : List ℕ → List PathSegment × List ℕ
segments_of value = parts_of segment_at value
