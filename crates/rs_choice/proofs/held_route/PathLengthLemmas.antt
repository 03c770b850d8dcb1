-- A path has no more AS numbers than its written form has octets: for `path_length` of held_route.rt.
use Rattle.std.proofs.Common.{◌≡◌, ◌∙◌, ap, refl, ℕ, suc, zero, ◌+◌, ◌*◌, ◌<◌, ◌≤◌, arith, List, [], ◌∷◌, length, length-append, get_or}
use Rattle.std.proofs.Common.{Option, Some, None}
use Rattle.std.specs.List.{cons_option, filter_map, flat_map, range_with_len}
use Rattle.std.proofs.lemmas.List.FromFn.{get_or-range_with_len, length-range_with_len}
use Rattle.std.proofs.lemmas.List.Sums.{sum_by-cons}
use Rattle.rs_types.specs.AsPath.{hops_of, path_length_of}
use Rattle.rs_types.specs.AttributeType.{type_of}
use Rattle.rs_types.specs.PathAttributes.{PathAttributes, PathSegment, AsSet, AsSequence}
use Rattle.rs_types.specs.PathSegments.{spelled_numbers, spelled_segment}
use Rattle.rs_types.specs.Section.{Item, spelled_length}
use Rattle.rs_types.specs.Spelling.{spelled_item, well_known, written, written_item, written_items}

-- a piece of what is spelled is no longer than all of it
piece_fits : {X Y A : Type 0} (spell : Y → List A) (item : X → Option Y) (xs : List X) (i : ℕ) (d : X) (y : Y) → i < length xs
    → item (get_or xs i d) ≡ Some y →
    length (spell y) ≤ length (flat_map spell (filter_map item xs))
piece_fits spell item [] i d y within at = absurd (omega (arith, within))
piece_fits spell item (x ∷ xs) zero d y within at =
    let both = ap (λ found. length (flat_map spell (cons_option found (filter_map item xs)))) at
    ∙ length-append (spell y) (flat_map spell (filter_map item xs)) in
    omega (arith, both)
piece_fits {X} {Y} spell item (x ∷ xs) (suc i) d y within at =
    let rest = piece_fits spell item xs i d y (omega (arith, within)) at in
    let more = longer (item x) in
    omega (arith, rest, more)
  where
    longer : (found : Option Y) → length (flat_map spell (filter_map item xs))
        ≤ length (flat_map spell (cons_option found (filter_map item xs)))
    longer None = omega arith
    longer (Some z) = let both = length-append (spell z) (flat_map spell (filter_map item xs)) in omega (arith, both)

length-spelled_numbers : (numbers : List ℕ) → length (spelled_numbers numbers) ≡ 4 * length numbers
length-spelled_numbers [] = refl
length-spelled_numbers (number ∷ later) = let rest = length-spelled_numbers later in omega arith

hops_fit : (segment : PathSegment) → hops_of segment ≤ length (spelled_segment segment)
hops_fit (AsSet numbers) = omega arith
hops_fit (AsSequence numbers) = let all = length-spelled_numbers numbers in omega (arith, all)

path_fits : (path : List PathSegment) → path_length_of path ≤ length (flat_map spelled_segment path)
path_fits [] = omega arith
path_fits (segment ∷ later) =
    let rest = path_fits later in
    let one = hops_fit segment in
    let sum : path_length_of (segment ∷ later) ≡ hops_of segment + path_length_of later = sum_by-cons hops_of segment later in
    let both = length-append (spelled_segment segment) (flat_map spelled_segment later) in
    omega (arith, rest, one, sum, both)

pub path_length_fits : (attributes : PathAttributes) → path_length_of attributes.path ≤ length (written attributes)
unfolding written written_items
path_length_fits attributes =
    let item : Item = well_known 2 (flat_map spelled_segment attributes.path) in
    let at : written_item attributes (get_or (range_with_len 0 256) 2 0) (type_of (get_or (range_with_len 0 256) 2 0)) ≡ Some item =
    ap (λ kind. written_item attributes kind (type_of kind)) (get_or-range_with_len 0 256 2 0 (omega arith)) in
    let all = length-range_with_len 0 256 in
    let fits = piece_fits spelled_item (λ kind. written_item attributes kind (type_of kind)) (range_with_len 0 256) 2 0 item
    (omega (arith, all)) at in
    let inside = length-append (spelled_length item) item.value in
    let path = path_fits attributes.path in
    omega (arith, fits, inside, path)
