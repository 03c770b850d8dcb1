use Rattle.std.proofs.Common.{◌≡◌, length}
use Rattle.rs_update.specs.Concerns.{field_concerns}
use Rattle.rs_update.proofs.concerns.field_concerns.Given as goal

-- what is left decides
abbrev pub invariant-loop-split : goal.invariant-loop-split
invariant-loop-split l = field_concerns l.prefix l.rest ≡ field_concerns l.prefix l.field

abbrev pub decreases-loop-split : goal.decreases-loop-split
decreases-loop-split l = length l.rest
