use Rattle.std.proofs.Common.{◌≡◌, length}
use Rattle.rs_types.specs.Shapes.{others_in}
use Rattle.rs_types.proofs.attributes.OthersIterator.next.Given as goal

abbrev pub invariant-loop-front : goal.invariant-loop-front
invariant-loop-front l = others_in l.self ≡ others_in l.initial.self

abbrev pub decreases-loop-front : goal.decreases-loop-front
decreases-loop-front l = length l.self.octets.now
