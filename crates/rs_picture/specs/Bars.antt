-- How long a bar is.
use Rattle.std.specs.Int.{div_ceil}
use Rattle.std.specs.Prelude.{ℕ, ◌+◌, ◌*◌, ◌<◌, ◌≤◌, min}

-- How long the bar of a number is, where that of the greatest number has the whole width: the number's part of the
-- width, rounded up. No number counts as more than the greatest one.
abbrev pub bar_of : ℕ → ℕ → ℕ → ℕ
bar_of number most width = div_ceil (min number most * width) most

-- A bar of this length stands for a number, if the bar of the greatest number has the whole width. The bar is not
-- shorter than the number's part of the width, and less than one longer.
abbrev pub IsProportional : ℕ → ℕ → ℕ → ℕ → Type 0
IsProportional number most width bar = (number * width ≤ bar * most) × (bar * most < number * width + most)
