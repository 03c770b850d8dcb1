-- The first number of a path that is in a set, segment by segment.
use Rattle.std.proofs.Common.{◌≡◌, ◌≤◌, arith, refl, ℕ, List, [], ◌∷◌, true, false, Option, Some, None}
use Rattle.std.specs.List.{find, flat_map, list_any}
use Rattle.std.proofs.lemmas.Bool.{and_from, le-leb, or_from}
use Rattle.std.specs.Option.{is_some, option_or}
use Rattle.std.proofs.lemmas.List.Folds.{find-append}
use Rattle.rs_types.specs.AsPath.{numbers_of}
use Rattle.rs_types.specs.PathAttributes.{PathSegment}
use Rattle.rs_types.specs.declared.as_range.AsRange.{AsRange}
use Rattle.rs_import.specs.AsRanges.{is_in_ranges}
use Rattle.rs_import.specs.Import.{holds_one_of, is_len_taken, no_rules, refused_as_of}

pub refused-more : (ranges : List AsRange) (segment : PathSegment) (later : List PathSegment)
    → refused_as_of ranges (segment ∷ later)
    ≡ option_or (find (λ asn. is_in_ranges ranges asn) (numbers_of segment)) (refused_as_of ranges later)
refused-more ranges segment later = find-append (λ asn. is_in_ranges ranges asn) (numbers_of segment) (flat_map numbers_of later)

pub some-or : (one other : Option ℕ) → is_some one ≡ true → option_or one other ≡ one
some-or None other is = cc is
some-or (Some n) other is = refl

pub none-or : (one other : Option ℕ) → is_some one ≡ false → option_or one other ≡ other
none-or None other is = refl
none-or (Some n) other is = cc is

-- no number is in no ranges
none-held : (numbers : List ℕ) → list_any (λ asn. is_in_ranges [] asn) numbers ≡ false
none-held [] = refl
none-held (number ∷ later) = none-held later

pub path-holds_none : (path : List PathSegment) → holds_one_of [] path ≡ false
path-holds_none [] = refl
path-holds_none (segment ∷ later) = or_from _ _ (none-held (numbers_of segment)) (path-holds_none later)

pub len-taken : (len : ℕ) → len ≤ 32 → is_len_taken no_rules len ≡ true
len-taken len short = and_from _ _ (le-leb 0 len (omega arith)) (le-leb len 32 short)
