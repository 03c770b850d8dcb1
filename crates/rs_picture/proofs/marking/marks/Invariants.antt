-- The marks so far are those of the round times before the next one, up to the end of the axis, and lie on it.
use Rattle.std.proofs.Common.{◌≡◌, ◌+◌, ◌*◌, All, map, min}
use Rattle.rs_picture.specs.Marks.{mark_of, round_times}
use Rattle.rs_picture.specs.Ticks.{IsOnAxis}
use Rattle.rs_picture.proofs.marking.marks.Given as goal

abbrev pub invariant-loop-number : goal.invariant-loop-number
invariant-loop-number l = record {
  marks : l.marks.items
      ≡ map (mark_of l.fn.axis) (round_times l.step l.fn.axis.first (min (l.first + l.number * l.step) (l.fn.axis.last + 1)));
  on_axis : All (λ mark. IsOnAxis l.fn.axis.first l.fn.axis.last l.fn.axis.width mark.time mark.place) l.marks.items;
}
