use Rattle.rs_mrt.specs.Reader.{ReadFails}
use Rattle.rs_inventory.proofs.FrontLemmas.{of-failed}
use Rattle.rs_inventory.proofs.front.Front.of.Goals as goal

pub returns-in_err-take-clause-fails : goal.returns-in_err-take-clause-fails
returns-in_err-take-clause-fails g c =
    let fails = c.in_err-take.ensures.fails in
    of-failed c.from_residual.result (fails.0, c.loop-front.invariant.gives fails.0 ReadFails fails.1, fails.2)
