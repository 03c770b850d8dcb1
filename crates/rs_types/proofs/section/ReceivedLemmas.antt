-- What is read of a section or of an AS_PATH is spelled as the octets that it was read of.
-- For `place_of` of item.rt, `whole` of gather.rt, and the lemmas of what is found and written.
use Rattle.std.proofs.Common.{◌≡◌, ℕ, zero, suc, ◌+◌, ◌<◌, ◌≤◌, List, [], ◌∷◌, ◌++◌, length, Option, Some, refl, sym, ap, ◌∙◌, append_assoc}
use Rattle.std.proofs.Common.{arith, inl, inr}
use Rattle.std.specs.List.{flat_map, AllByRecursion}
use Rattle.std.proofs.lemmas.List.{length-append}
use Rattle.std.proofs.lemmas.List.Sums.{sum_by-cons}
use Rattle.rs_types.specs.AsPath.{hops_of, path_length_of}
use Rattle.rs_types.specs.Parts.{AreOctets, parts_within}
use Rattle.rs_types.specs.PathAttributes.{PathSegment, AsSet, AsSequence}
use Rattle.rs_types.specs.PathSegments.{spelled_segment, segment_at, segments_of}
use Rattle.rs_types.specs.Section.{Item, FitsItsLength, spelled_length, item_at, items_of, rest_of}
use Rattle.rs_types.specs.Spelling.{spelled_item}
use Rattle.rs_types.proofs.section.ItemLemmas.{item_at-found}
use Rattle.rs_types.proofs.section.KindLemmas.{cases_Option}
use Rattle.rs_types.proofs.fields.PartsLemmas.{AreOctets-front, AreOctets-behind}
use Rattle.rs_types.proofs.fields.SegmentLemmas.{segment_at-found, length-spelled_numbers}

-- ---- parts that are spelled as the octets that they were read of

module _ {A : Type 0} (read : List ℕ → Option (A × List ℕ)) (spell : A → List ℕ) (Is : A → Type 0)
    (reads : (octets : List ℕ) (split : A × List ℕ) → AreOctets octets → read octets ≡ Some split → (spell split.0 ++ split.1 ≡ octets)
    × AreOctets split.1 × Is split.0) where
  parts_within-read : (fuel : ℕ) (octets : List ℕ) → AreOctets octets
      → (flat_map spell (parts_within read fuel octets).0 ++ (parts_within read fuel octets).1 ≡ octets)
      × AllByRecursion Is (parts_within read fuel octets).0
  unfolding parts_within
  parts_within-read zero octets fit = (refl, tt)
  parts_within-read (suc fuel) octets fit =
      elim (cases_Option (read octets)) [
        | inl none ↦ rw (parts_within, none) (refl, tt)
        | inr some ↦
            let split = some.0 in
            let here = reads octets split fit some.1 in
            let later = parts_within-read fuel split.1 here.1 in
            rw (parts_within, some.1) (
              append_assoc (spell split.0) (flat_map spell (parts_within read fuel split.1).0) (parts_within read fuel split.1).1
                  ∙ ap (λ (behind : List ℕ). spell split.0 ++ behind) later.0 ∙ here.0,
              (here.2, later.1),
            )
      ]

-- ---- attributes

-- an attribute as it is received: octets that spell it
pub record IsReceived (item : Item) : Type 0 where
  pub flags_fit : item.flags < 256
  pub kind_fits : item.kind < 256
  pub length_fits : FitsItsLength item
  pub value_octets : AreOctets item.value

-- what is read is received, and spelled as the octets that it takes
pub item_at-reads : (octets : List ℕ) (split : Item × List ℕ) → AreOctets octets → item_at octets ≡ Some split
    → (spelled_item split.0 ++ split.1 ≡ octets) × AreOctets split.1 × IsReceived split.0
item_at-reads octets split are e =
    let item = split.0 in
    let found = item_at-found octets split are e in
    let spelled = AreOctets-front (spelled_item item) split.1 octets found.0 are in
    let value = AreOctets-behind (item.flags ∷ item.kind ∷ spelled_length item) item.value (spelled_item item) refl spelled in (
      sym found.0,
      AreOctets-behind (spelled_item item) split.1 octets found.0 are,
      record { flags_fit = spelled 0; kind_fits = spelled 1; length_fits = found.1; value_octets = value },
    )

-- a section is the spellings of its attributes and a rest
pub section-is_spelled : (section : List ℕ) → AreOctets section → (flat_map spelled_item (items_of section) ++ rest_of section ≡ section)
    × AllByRecursion IsReceived (items_of section)
section-is_spelled section fit = parts_within-read item_at spelled_item IsReceived item_at-reads (length section) section fit

-- ---- segments

segment_at-reads : (octets : List ℕ) (split : PathSegment × List ℕ) → AreOctets octets → segment_at octets ≡ Some split
    → (spelled_segment split.0 ++ split.1 ≡ octets) × AreOctets split.1 × Unit {0}
segment_at-reads octets split fit e =
    let found = (segment_at-found octets split fit e).0 in
    (sym found, AreOctets-behind (spelled_segment split.0) split.1 octets found fit, tt)

-- a value is the spellings of its segments and a rest
pub value-is_spelled : (value : List ℕ) → AreOctets value → flat_map spelled_segment (segments_of value).0 ++ (segments_of value).1 ≡ value
value-is_spelled value fit =
    (parts_within-read segment_at spelled_segment (λ segment. Unit {0}) segment_at-reads (length value) value fit).0

hops_spelled : (segment : PathSegment) → hops_of segment ≤ length (spelled_segment segment)
hops_spelled (AsSet numbers) = omega arith
hops_spelled (AsSequence numbers) = omega (arith, length-spelled_numbers numbers)

-- a path has no more AS numbers than octets
pub path_length_spelled : (path : List PathSegment) → path_length_of path ≤ length (flat_map spelled_segment path)
path_length_spelled [] = omega arith
path_length_spelled (segment ∷ path) =
    let later = path_length_spelled path in
    let all : path_length_of (segment ∷ path) ≡ hops_of segment + path_length_of path = sum_by-cons hops_of segment path in
    omega (arith, later, all, hops_spelled segment, length-append (spelled_segment segment) (flat_map spelled_segment path))

pub path_length_fits : (value : List ℕ) → AreOctets value → path_length_of (segments_of value).0 ≤ length value
path_length_fits value fit =
    let whole = ap length (value-is_spelled value fit) in
    omega (
      arith,
      whole,
      path_length_spelled (segments_of value).0,
      length-append (flat_map spelled_segment (segments_of value).0) (segments_of value).1,
    )
