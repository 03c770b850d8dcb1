-- The marks of an axis of time.
use Rattle.std.specs.Prelude.{ℕ, List, [], ◌∷◌, ◌+◌, ◌*◌, ◌<◌, ◌≤◌, ◌%◌, ◌≡◌, if◌then◌else◌, nat_lt}

-- an axis has fewer steps than this
abbrev pub most_ticks : ℕ
most_ticks = 8

-- the longest step in seconds: 20 years
abbrev pub longest : ℕ
longest = 630720000

-- The first of some steps of which few enough fit on an axis of so many seconds; else the longest.
abbrev pub step_for : ℕ → List ℕ → ℕ
step_for span [] = longest
step_for span (step ∷ steps) = if nat_lt span (most_ticks * step) then step else step_for span steps

-- the round steps in seconds
abbrev pub steps : List ℕ
steps = 1 ∷ 2 ∷ 5 ∷ 10 ∷ 15 ∷ 30 ∷ 60 ∷ 120 ∷ 300 ∷ 600 ∷ 900 ∷ 1800 ∷ 3600 ∷ 7200 ∷ 10800 ∷ 21600 ∷ 43200 ∷ 86400
    ∷ 172800 ∷ 604800 ∷ 1209600 ∷ 2592000 ∷ 7776000 ∷ 31536000 ∷ 63072000 ∷ 157680000 ∷ []

-- The mark is the first multiple of the step that is no earlier than the beginning.
abbrev pub IsFirstTick : ℕ → ℕ → ℕ → Type 0
IsFirstTick first step mark = (mark % step ≡ 0) × (first ≤ mark) × (mark < first + step)

-- A mark is on an axis from the first time to the last, within its time and within its width.
abbrev pub IsOnAxis : ℕ → ℕ → ℕ → ℕ → ℕ → Type 0
IsOnAxis first last width time place = (first ≤ time) × (time ≤ last) × (place ≤ width)
