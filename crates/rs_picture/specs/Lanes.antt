-- Where the lanes of a picture are.
use Rattle.std.specs.Prelude.{ℕ, ◌+◌, ◌*◌}

-- where a lane begins: after as many lanes and gaps as its number says
abbrev pub top_of : ℕ → ℕ → ℕ → ℕ
top_of height gap lane = lane * (height + gap)

-- how high so many lanes are, with their gaps
abbrev pub height_of : ℕ → ℕ → ℕ → ℕ
height_of count height gap = count * (height + gap)
