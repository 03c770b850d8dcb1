-- When something happened: seconds since 1970, and microseconds if a record has them.
use Rattle.std.specs.Prelude.{ℕ, ◌+◌, ◌*◌, Bool, nat_lt, if◌then◌else◌, unwrap_or}
use Rattle.rs_glass.specs.Microseconds.{a_second}
use Rattle.rs_glass.specs.declared.moment.Moment.{Moment}

-- a moment in microseconds since 1970; without microseconds, it is the beginning of its second
abbrev pub in_microseconds : Moment → ℕ
in_microseconds moment = moment.seconds * a_second + unwrap_or moment.microseconds 0

abbrev pub is_earlier : Moment → Moment → Bool
is_earlier one other = nat_lt (in_microseconds one) (in_microseconds other)

-- the later of two moments; the second one if neither is later
abbrev pub later_of : Moment → Moment → Moment
later_of one other = if is_earlier other one then one else other
