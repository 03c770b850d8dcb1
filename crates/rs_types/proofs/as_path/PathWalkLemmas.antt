-- The value of an AS_PATH, segment by segment: for as_path.rt.
use Rattle.std.proofs.Common.{◌≡◌, ℕ, ◌+◌, ◌<◌, ◌==◌, List, [], ◌∷◌, length, Option, Some, None, refl, ap, ◌∙◌, arith}
use Rattle.std.specs.Prelude.{MatchOption}
use Rattle.std.specs.Option.{option_map}
use Rattle.std.proofs.lemmas.List.Sums.{sum_by-cons}
use Rattle.rs_types.specs.AsPath.{hops_of, path_length_of, first_as_of}
use Rattle.rs_types.specs.PathAttributes.{PathSegment, AsSequence}
use Rattle.rs_types.specs.PathSegments.{segment_at, segments_of}
use Rattle.rs_types.specs.Section.{is_path}
use Rattle.rs_types.proofs.fields.PartsLemmas.{parts_of-some, parts_of-none}
use Rattle.rs_types.proofs.fields.SegmentLemmas.{segment_at-takes, segment_shrinks}

-- the segments of a value, one by one
pub segments-step : (octets : List ℕ) (split : PathSegment × List ℕ) → segment_at octets ≡ Some split
    → (segments_of octets).0 ≡ split.0 ∷ (segments_of split.1).0
segments-step octets split e =
    ap (λ (parts : List PathSegment × List ℕ). parts.0) (parts_of-some segment_at segment_shrinks octets split.0 split.1 e)

pub segments-end : (octets : List ℕ) → segment_at octets ≡ None → (segments_of octets).0 ≡ []
segments-end octets e = ap (λ (parts : List PathSegment × List ℕ). parts.0) (parts_of-none segment_at octets e)

-- the hops of a path, one segment after another
pub hops-step : (octets : List ℕ) (split : PathSegment × List ℕ) → segment_at octets ≡ Some split
    → path_length_of (segments_of octets).0 ≡ hops_of split.0 + path_length_of (segments_of split.1).0
hops-step octets split e = ap path_length_of (segments-step octets split e) ∙ sum_by-cons hops_of split.0 (segments_of split.1).0

-- the first AS number of a path whose first segment is a sequence
pub first_as-is : (numbers left : List ℕ) (later : List PathSegment) (first : Option ℕ)
    → MatchOption first ((numbers ≡ []) × (left ≡ [])) (λ x. numbers ≡ x ∷ left) → first ≡ first_as_of (AsSequence numbers ∷ later)
first_as-is numbers left later None is = rw is.0 refl
first_as-is numbers left later (Some x) is = rw is refl

-- what was read, where something was
some_split : (found : Option (PathSegment × List ℕ)) (behind : List ℕ) → Some behind ≡ option_map (λ split. split.1) found
    → (split : PathSegment × List ℕ) × (found ≡ Some split) × (split.1 ≡ behind)
some_split None behind e = absurd cc
some_split (Some split) behind e = (split, refl, cc)

none_split : (found : Option (PathSegment × List ℕ)) → None ≡ option_map (λ split. split.1) found → found ≡ None
none_split found e = grind arith

-- a path is a segment and a path behind it
pub is_path-step : (octets behind : List ℕ) → Some behind ≡ option_map (λ split. split.1) (segment_at octets)
    → (is_path octets ≡ is_path behind) × (length behind < length octets)
is_path-step octets behind e =
    let found = some_split (segment_at octets) behind e in
    let split = found.0 in
    let parts = parts_of-some segment_at segment_shrinks octets split.0 split.1 found.1 in
    let same : is_path octets ≡ is_path split.1 = ap (λ (p : List PathSegment × List ℕ). length p.1 == 0) parts in
    (same ∙ ap is_path found.2, rw (← found.2) (segment_at-takes octets split found.1))

-- or it has no octets
pub is_path-end : (octets : List ℕ) → None ≡ option_map (λ split. split.1) (segment_at octets) → is_path octets ≡ (length octets == 0)
is_path-end octets e =
    ap (λ (p : List PathSegment × List ℕ). length p.1 == 0) (parts_of-none segment_at octets (none_split (segment_at octets) e))
