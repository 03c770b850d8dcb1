-- None of the steps so far is long enough.
use Rattle.std.proofs.Common.{◌≡◌, drop}
use Rattle.rs_picture.specs.Ticks.{step_for}
use Rattle.rs_picture.proofs.time_axis.step_in.Given as goal

abbrev pub invariant-loop-step : goal.invariant-loop-step
invariant-loop-step l = step_for l.span (drop l.step-index l.steps) ≡ step_for l.span l.steps
