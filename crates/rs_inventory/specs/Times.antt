-- The times of records, and how many octets they have (RFC 6396, section 2).
use Rattle.std.specs.Prelude.{◌≡◌, ◌≤◌, ℕ, ◌+◌, List, [], ◌∷◌, All, Contains, Option, Some, None}
use Rattle.std.specs.Option.{option_map}

-- ---- times

-- the earliest of these times, if there are any
abbrev pub IsEarliest : List ℕ → Option ℕ → Type 0
IsEarliest times None = times ≡ []
IsEarliest times (Some time) = Contains times time × All (λ other. time ≤ other) times

-- the latest of these times, if there are any
abbrev pub IsLatest : List ℕ → Option ℕ → Type 0
IsLatest times None = times ≡ []
IsLatest times (Some time) = Contains times time × All (λ other. other ≤ time) times

-- ---- octets

-- the sum of numbers, if each is known
abbrev pub known_sum : List (Option ℕ) → Option ℕ
known_sum [] = Some 0
known_sum (None ∷ later) = None
known_sum (Some n ∷ later) = option_map (λ m. n + m) (known_sum later)
