use Rattle.rs_glass_shell.specs.Named.{IsNameOf, NoneFrom}
use Rattle.rs_glass_shell.proofs.setup.peer_of_name.Given as goal

abbrev pub invariant-loop-number : goal.invariant-loop-number
invariant-loop-number l = NoneFrom (IsNameOf l.name l.plan.peers) 0 l.number
