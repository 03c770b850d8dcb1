use Rattle.std.proofs.Common.{◌≡◌, length}
use Rattle.rs_types.specs.Community.{has_value_of}
use Rattle.rs_types.specs.Shapes.{numbers_in}
use Rattle.rs_types.proofs.attributes.Communities.holds_of.Given as goal

abbrev pub invariant-loop-value : goal.invariant-loop-value
invariant-loop-value l = has_value_of (numbers_in l.rest) l.high ≡ has_value_of (numbers_in l.self.values) l.high

abbrev pub decreases-loop-value : goal.decreases-loop-value
decreases-loop-value l = length (numbers_in l.rest)
