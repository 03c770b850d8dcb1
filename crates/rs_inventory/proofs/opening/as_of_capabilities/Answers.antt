use Rattle.std.proofs.Common.{◌∙◌, sym}
use Rattle.rs_inventory.specs.Opening.{as_of_capability}
use Rattle.rs_inventory.proofs.ItemLemmas.{found_behind, found_in_front, found_nowhere}
use Rattle.rs_inventory.proofs.opening.as_of_capabilities.Goals as goal

pub returns-in-Some-as_of_capability : goal.returns-in-Some-as_of_capability
returns-in-Some-as_of_capability c =
    sym (c.loop-capability.invariant ∙ found_in_front as_of_capability c.loop-capability.rest.now _ c.in-Some.behind.now
    c.in-Some-as_of_capability.asn (sym c.in-Some.ensures) (sym c.in-Some-as_of_capability.ensures))

pub loop-capability-preserved : goal.loop-capability-preserved
loop-capability-preserved c =
    c.loop-capability.invariant ∙ found_behind as_of_capability c.loop-capability.rest.now _ c.in-Some.behind.now (sym c.in-Some.ensures)
    (sym c.in_default-as_of_capability.ensures)

pub returns : goal.returns
returns c = sym (c.loop-capability.invariant ∙ found_nowhere as_of_capability c.loop-capability.rest.now (sym c.in_default.ensures))
