use Rattle.std.proofs.Common.{◌∙◌, sym}
use Rattle.rs_inventory.specs.Opening.{as_of_parameter}
use Rattle.rs_inventory.proofs.ItemLemmas.{found_behind, found_in_front, found_nowhere}
use Rattle.rs_inventory.proofs.opening.as_of_parameters.Goals as goal

pub returns-in-Some-as_of_parameter : goal.returns-in-Some-as_of_parameter
returns-in-Some-as_of_parameter c =
    sym (c.loop-parameter.invariant ∙ found_in_front as_of_parameter c.loop-parameter.rest.now _ c.in-Some.behind.now
    c.in-Some-as_of_parameter.asn (sym c.in-Some.ensures) (sym c.in-Some-as_of_parameter.ensures))

pub loop-parameter-preserved : goal.loop-parameter-preserved
loop-parameter-preserved c =
    c.loop-parameter.invariant ∙ found_behind as_of_parameter c.loop-parameter.rest.now _ c.in-Some.behind.now (sym c.in-Some.ensures)
    (sym c.in_default-as_of_parameter.ensures)

pub returns : goal.returns
returns c = sym (c.loop-parameter.invariant ∙ found_nowhere as_of_parameter c.loop-parameter.rest.now (sym c.in_default.ensures))
