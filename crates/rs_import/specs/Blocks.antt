-- Items in the order of their numbers. Numbers that are equal but for their last bits make a block (our choice).
use Rattle.std.specs.Prelude.{◌≤◌, ◌<◌, ◌/◌, ◌^◌, ℕ, List, length}
use Rattle.std.specs.List.{AllWithin, HoldsAt}

-- so many items stand before a block: their numbers are of blocks before it, and those of the others are not
abbrev pub IsStart : {X : Type 0} → (X → ℕ) → List X → ℕ → ℕ → ℕ → Type 0
IsStart number_of items shift block start =
    (start ≤ length items)
    × AllWithin (λ item. number_of item / 2 ^ shift < block) items 0 start
    × AllWithin (λ item. block ≤ number_of item / 2 ^ shift) items start (length items)

-- the starts of the first blocks: for each, how many items stand before it
abbrev pub AreStarts : {X : Type 0} → (X → ℕ) → List X → ℕ → List ℕ → Type 0
AreStarts number_of items shift starts =
    (shift < 32) × ((block : ℕ) → block < length starts → HoldsAt (IsStart number_of items shift block) starts block)

-- before these items, from one place to another, no number is above this one; behind them every number is
abbrev pub IsWithinBlock : {X : Type 0} → (X → ℕ) → List X → ℕ → ℕ → ℕ → Type 0
IsWithinBlock number_of items number from to =
    (from ≤ to) × (to ≤ length items)
    × AllWithin (λ item. number_of item ≤ number) items 0 from
    × AllWithin (λ item. number < number_of item) items to (length items)
