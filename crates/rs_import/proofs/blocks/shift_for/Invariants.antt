use Rattle.std.proofs.Common.{◌-◌, ◌<◌}
use Rattle.rs_import.proofs.blocks.shift_for.Given as goal

abbrev pub invariant-loop-shift : goal.invariant-loop-shift
invariant-loop-shift l = l.shift < 32

abbrev pub decreases-loop-shift : goal.decreases-loop-shift
decreases-loop-shift l = 31 - l.shift
