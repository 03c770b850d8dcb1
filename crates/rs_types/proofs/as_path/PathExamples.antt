-- Segments of an AS_PATH by hand.
use Rattle.std.proofs.Common.{◌≡◌, List, ℕ, [], ◌∷◌, ◌++◌, Some, None, true, false, refl, lit<, lit≤, arith}
use Rattle.rs_types.specs.Numbers.{numbers_at}
use Rattle.rs_types.specs.Parts.{parts_within}
use Rattle.rs_types.specs.PathAttributes.{AsSet, AsSequence}
use Rattle.rs_types.specs.PathSegments.{SpellsSegment, segment_at, segments_of}
use Rattle.rs_types.specs.Section.{is_path}

-- a set of one AS number, as it is spelled
abbrev set : List ℕ
set = 0x01 ∷ 0x01 ∷ 0x00 ∷ 0x00 ∷ 0xFB ∷ 0xF5 ∷ []

pub what_is_read :
    (numbers_at 2 (0x00 ∷ 0x00 ∷ 0xFB ∷ 0xF5 ∷ 0x00 ∷ 0x01 ∷ 0x11 ∷ 0x2E ∷ []) ≡ 64501 ∷ 69934 ∷ [])
    × (numbers_at 1 (0x00 ∷ 0x00 ∷ 0xFB ∷ 0xF5 ∷ 0x00 ∷ 0x01 ∷ 0x11 ∷ 0x2E ∷ []) ≡ 64501 ∷ [])
    × (segment_at (set ++ 0x02 ∷ []) ≡ Some (AsSet (64501 ∷ []), 0x02 ∷ []))
    × (segment_at (0x02 ∷ 0x00 ∷ []) ≡ None)  -- of count 0
    × (segment_at (0x03 ∷ 0x01 ∷ 0x00 ∷ 0x00 ∷ 0xFB ∷ 0xF5 ∷ []) ≡ None)  -- of type 3
    × (segment_at (0x02 ∷ 0x02 ∷ 0x00 ∷ 0x00 ∷ 0xFB ∷ 0xF5 ∷ []) ≡ None)  -- past the end
    × (segments_of (set ++ 0x02 ∷ 0x01 ∷ 0x00 ∷ 0x00 ∷ 0xFD ∷ 0xF2 ∷ []) ≡ (AsSet (64501 ∷ []) ∷ AsSequence (65010 ∷ []) ∷ [], []))
    × (segments_of (set ++ 0x02 ∷ 0x00 ∷ []) ≡ (AsSet (64501 ∷ []) ∷ [], 0x02 ∷ 0x00 ∷ []))  -- with octets left over
    × (is_path [] ≡ true)
    × (is_path (set ++ 0x02 ∷ []) ≡ false)
unfolding parts_within segment_at numbers_at
what_is_read = (refl, refl, refl, refl, refl, refl, refl, refl, refl, refl)

pub a_segment_is_spelled : SpellsSegment set (AsSet (64501 ∷ []))
a_segment_is_spelled = (refl, record { some = lit< tt; most = lit≤ tt; each = (lit< tt, tt) })

-- ---- what must not hold

pub no_segment_without_numbers : SpellsSegment (0x02 ∷ 0x00 ∷ []) (AsSequence []) → ⊥
no_segment_without_numbers spells = let some = spells.1.some in omega arith

pub no_segment_with_a_longer_number : SpellsSegment (0x02 ∷ 0x01 ∷ 0x00 ∷ 0x00 ∷ 0xFB ∷ 0xF5 ∷ []) (AsSequence (4295031797 ∷ [])) → ⊥
no_segment_with_a_longer_number spells = let below = spells.1.each.0 in omega arith
