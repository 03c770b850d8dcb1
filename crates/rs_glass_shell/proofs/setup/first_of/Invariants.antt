use Rattle.rs_glass_shell.specs.Named.{IsOf, NoneFrom}
use Rattle.rs_glass_shell.proofs.setup.first_of.Given as goal

abbrev pub invariant-loop-number : goal.invariant-loop-number
invariant-loop-number l = NoneFrom (IsOf l.word l.plan.peers) l.fn.from l.number
