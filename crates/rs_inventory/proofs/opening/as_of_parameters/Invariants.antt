-- The first answer behind the items so far is the first of all.
use Rattle.std.proofs.Common.{◌≡◌, length}
use Rattle.rs_inventory.specs.Opening.{as_of_parameter, first_found, items_of}
use Rattle.rs_inventory.proofs.opening.as_of_parameters.Given as goal

abbrev pub invariant-loop-parameter : goal.invariant-loop-parameter
invariant-loop-parameter l = first_found as_of_parameter (items_of l.parameters) ≡ first_found as_of_parameter (items_of l.rest)

abbrev pub decreases-loop-parameter : goal.decreases-loop-parameter
decreases-loop-parameter l = length l.rest
