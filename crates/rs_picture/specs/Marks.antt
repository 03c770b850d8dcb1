-- Where times lie on an axis, and the marks of its round times. Nothing here is of a standard: all of it is our choice.
use Rattle.std.specs.List.{range_with_len}
use Rattle.std.specs.Prelude.{ℕ, List, ◌+◌, ◌-◌, ◌%◌, ◌==◌, filter, map}
use Rattle.rs_picture.specs.Bars.{bar_of}
use Rattle.rs_picture.specs.Ticks.{step_for, steps}
use Rattle.rs_picture.specs.declared.marking.Mark.{Mark}
use Rattle.rs_picture.specs.declared.time_axis.TimeAxis.{TimeAxis}

-- Where a time lies: the bar of the time since the beginning of the axis ends there.
abbrev pub place_of : TimeAxis → ℕ → ℕ
place_of axis time = bar_of (time - axis.first) (axis.last - axis.first) axis.width

-- the multiples of a step among the times from the first one on and before another one, in order
abbrev pub round_times : ℕ → ℕ → ℕ → List ℕ
round_times step first until = filter (λ time. time % step == 0) (range_with_len first (until - first))

-- how many seconds lie between two marks of an axis
abbrev pub step_of : TimeAxis → ℕ
step_of axis = step_for (axis.last - axis.first) steps

abbrev pub mark_of : TimeAxis → ℕ → Mark
mark_of axis time = record { time = time; place = place_of axis time }

-- The marks of an axis: one of each round time from the first time to the last, which is the one before `last + 1`.
abbrev pub marks_of : TimeAxis → List Mark
marks_of axis = map (mark_of axis) (round_times (step_of axis) axis.first (axis.last + 1))
