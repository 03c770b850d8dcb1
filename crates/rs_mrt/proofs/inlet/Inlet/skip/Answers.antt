use Rattle.std.proofs.Common.{arith}
use Rattle.std.proofs.lemmas.Grind.{common_steps}
use Rattle.std.proofs.lemmas.Result.{err_from_is_err_and}
use Rattle.rs_mrt.proofs.record_reader.InflowLemmas.{SoFar-then, SoFar-failed}
use Rattle.rs_mrt.proofs.inlet.Inlet.skip.Goals as goal

pub returns-in_err-forgotten : goal.returns-in_err-forgotten
returns-in_err-forgotten g c =
    let R = g.R.Read in
    let p = err_from_is_err_and c.from_residual.result c.from_residual.ensures.1 in
    rw p.1 (SoFar-failed R.gives R.failures c.args.self.now c.loop-left.self c.forget.new.self c.args.count c.loop-left.left
    c.in_err-forgotten.field-0.0 p.0 (omega arith) c.loop-left.invariant c.in_err-forgotten.ensures)

pub loop-left-preserved : goal.loop-left-preserved
loop-left-preserved g c =
    let R = g.R.Read in
    SoFar-then R.gives R.failures c.args.self.now c.loop-left.self c.forget.new.self c.args.count c.loop-left.left
    c.in_ok-forgotten.forgotten c.loop-left.invariant c.in_ok-forgotten.ensures c.if-forgotten-eq0.false

pub returns-then-forgotten-eq0 : goal.returns-then-forgotten-eq0
returns-then-forgotten-eq0 g c = grind (arith, common_steps)
