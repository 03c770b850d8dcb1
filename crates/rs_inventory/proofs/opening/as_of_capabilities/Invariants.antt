-- The first answer behind the items so far is the first of all.
use Rattle.std.proofs.Common.{◌≡◌, length}
use Rattle.rs_inventory.specs.Opening.{as_of_capability, first_found, items_of}
use Rattle.rs_inventory.proofs.opening.as_of_capabilities.Given as goal

abbrev pub invariant-loop-capability : goal.invariant-loop-capability
invariant-loop-capability l = first_found as_of_capability (items_of l.capabilities) ≡ first_found as_of_capability (items_of l.rest)

abbrev pub decreases-loop-capability : goal.decreases-loop-capability
decreases-loop-capability l = length l.rest
