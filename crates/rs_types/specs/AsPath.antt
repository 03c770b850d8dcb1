-- AS_PATH: its length, its neighbour AS and its AS numbers (RFC 4271, sections 4.3, 5.1.2 and 9.1.2.2; RFC 6793).
use Rattle.std.specs.Prelude.{ℕ, Bool, List, ◌∷◌, length, Option, Some, None, unwrap_or}
use Rattle.std.specs.Prelude.{sum_by}
use Rattle.std.specs.List.{list_any}
use Rattle.std.specs.Prelude.{◌==◌}
use Rattle.rs_types.specs.declared.as_path.Segment.{Segment}
use Rattle.rs_types.specs.declared.as_path.Segment.TheVariants.{Set, Sequence}
use Rattle.rs_types.specs.PathAttributes.{PathSegment, AsSet, AsSequence}

-- a segment as a value: whether it is a set or a sequence, and its AS numbers
abbrev pub segment_of : Segment → PathSegment
segment_of (Set numbers) = AsSet numbers.items
segment_of (Sequence numbers) = AsSequence numbers.items

-- the AS numbers of a segment
abbrev pub numbers_of : PathSegment → List ℕ
numbers_of (AsSet numbers) = numbers
numbers_of (AsSequence numbers) = numbers

-- an AS_SET counts as 1, however many AS numbers it has (section 9.1.2.2, a)
abbrev pub hops_of : PathSegment → ℕ
hops_of (AsSet numbers) = 1
hops_of (AsSequence numbers) = length numbers

-- the length of AS_PATH for the decision process (section 9.1.2.2, a)
abbrev pub path_length_of : List PathSegment → ℕ
path_length_of path = sum_by hops_of path

-- the first AS number of a path that begins with an AS_SEQUENCE
abbrev pub first_as_of : List PathSegment → Option ℕ
first_as_of (AsSequence (first ∷ later) ∷ segments) = Some first
first_as_of path = None

-- the neighbour AS: the first AS number of the path if it begins with an AS_SEQUENCE, or else the sending peer's own
-- AS (our choice)
abbrev pub neighbour_of : List PathSegment → ℕ → ℕ
neighbour_of path peer_as = unwrap_or (first_as_of path) peer_as

-- whether an AS number stands in a path, in a segment of either kind
abbrev pub holds_as_in : List PathSegment → ℕ → Bool
holds_as_in path asn = list_any (λ segment. list_any (λ number. number == asn) (numbers_of segment)) path
