-- Ranges of AS numbers in the order of their first numbers, each with how far those up to it reach (our choice).
use Rattle.std.specs.Prelude.{◌≡◌, ◌≤◌, ◌<◌, ◌+◌, ℕ, List, length}
use Rattle.std.specs.List.{AllWithin, HoldsAt}
use Rattle.std.specs.List.Sorted.{IsNonDecreasingBy}
use Rattle.rs_types.specs.declared.as_range.AsRange.{AsRange}

-- ranges are in the order of their first numbers
abbrev pub AreInOrder : List AsRange → Type 0
AreInOrder ranges = IsNonDecreasingBy (λ range. range.first) ranges

-- the first ranges, so many, reach to a number: one of them ends there, and none ends behind it
abbrev pub IsReach : List AsRange → ℕ → ℕ → Type 0
IsReach ranges count reach =
    AllWithin (λ range. range.last ≤ reach) ranges 0 count
    × ((place : ℕ) × (place < count) × HoldsAt (λ range. range.last ≡ reach) ranges place)

-- for each range, to where it and those before it reach
abbrev pub AreReaches : List AsRange → List ℕ → Type 0
AreReaches ranges reaches =
    (length reaches ≡ length ranges)
    × ((place : ℕ) → place < length ranges → HoldsAt (λ reach. IsReach ranges (place + 1) reach) reaches place)
