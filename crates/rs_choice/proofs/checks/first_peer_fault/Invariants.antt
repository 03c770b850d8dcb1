use Rattle.std.proofs.Common.{◌≡◌}
use Rattle.rs_types.specs.FirstFault.{first_fault}
use Rattle.rs_choice.proofs.plan.PlanLemmas.{own_tests, tests_from}
use Rattle.rs_choice.proofs.checks.first_peer_fault.Given as goal

abbrev pub invariant-loop-number : goal.invariant-loop-number
invariant-loop-number l =
    first_fault (tests_from (own_tests l.peers) l.peers 0) ≡ first_fault (tests_from (own_tests l.peers) l.peers l.number)
