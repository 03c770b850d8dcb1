use Rattle.std.proofs.Common.{◌≡◌, length}
use Rattle.rs_types.specs.Section.{is_path}
use Rattle.rs_types.proofs.as_path.is_path.Given as goal

abbrev pub invariant-loop-front : goal.invariant-loop-front
invariant-loop-front l = is_path l.rest ≡ is_path l.value

abbrev pub decreases-loop-front : goal.decreases-loop-front
decreases-loop-front l = length l.rest
