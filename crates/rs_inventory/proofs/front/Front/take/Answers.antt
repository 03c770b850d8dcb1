use Rattle.rs_inventory.proofs.FrontLemmas.{front-fails, of-failed}
use Rattle.rs_inventory.proofs.front.Front.take.Goals as goal

pub returns-in_err-taken-clause-fails : goal.returns-in_err-taken-clause-fails
returns-in_err-taken-clause-fails g c =
    of-failed c.from_residual.result
    (front-fails g.R.Read.gives c.args.self.now c.args.reader.now c.requires.unfinished c.in_err-taken.ensures.gives)
