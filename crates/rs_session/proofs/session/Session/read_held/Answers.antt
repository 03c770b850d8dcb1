-- Each answer is one search, so that a wrong body is refused soon.
use Rattle.std.proofs.Common.{rules}
use Rattle.rs_session.proofs.session.Session.read_held.Goals as goal

pub invariant_of-self : goal.invariant_of-self
invariant_of-self g c = search rules

pub invariant_of-self-in-Ends : goal.invariant_of-self-in-Ends
invariant_of-self-in-Ends g c = search rules

pub invariant_of-self-in-Gives : goal.invariant_of-self-in-Gives
invariant_of-self-in-Gives g c = search rules

pub invariant_of-self-in-PassesOver : goal.invariant_of-self-in-PassesOver
invariant_of-self-in-PassesOver g c = search rules

pub returns-in-Ends-clause-err : goal.returns-in-Ends-clause-err
returns-in-Ends-clause-err g c = search rules

pub returns-in-Ends-clause-ok : goal.returns-in-Ends-clause-ok
returns-in-Ends-clause-ok g c = search rules

pub returns-in-Gives-clause-err : goal.returns-in-Gives-clause-err
returns-in-Gives-clause-err g c = search rules

pub returns-in-Gives-clause-ok : goal.returns-in-Gives-clause-ok
returns-in-Gives-clause-ok g c = search rules

pub returns-in-PassesOver-clause-err : goal.returns-in-PassesOver-clause-err
returns-in-PassesOver-clause-err g c = search rules

pub returns-in-PassesOver-clause-ok : goal.returns-in-PassesOver-clause-ok
returns-in-PassesOver-clause-ok g c = search rules

pub returns-in_default-clause-err : goal.returns-in_default-clause-err
returns-in_default-clause-err g c = search rules

pub returns-in_default-clause-ok : goal.returns-in_default-clause-ok
returns-in_default-clause-ok g c = search rules

pub returns-in_err-effect-clause-err : goal.returns-in_err-effect-clause-err
returns-in_err-effect-clause-err g c = search rules

pub returns-in_err-effect-clause-ok : goal.returns-in_err-effect-clause-ok
returns-in_err-effect-clause-ok g c = search rules
