use Rattle.std.proofs.Common.{◌∙◌, sym}
use Rattle.rs_choice.specs.Plan.{peer_of}
use Rattle.rs_choice.proofs.plan.PlanLemmas.{first_fault-here, first_fault-later, own_fault, own_tests}
use Rattle.rs_choice.proofs.checks.first_peer_fault.Goals as goal

pub returns-in-Some : goal.returns-in-Some
returns-in-Some c =
    let peers = c.args.peers.now in
    let number = c.loop-number.number in
    let peer = c.index-peers-number.result in
    sym (first_fault-here (own_tests peers) peers number peer c.loop-number-test.true c.index-peers-number.is c.loop-number.invariant
    c.in-Some.fault (own_fault peers number (peer_of peer) ∙ sym c.peer_fault.ensures ∙ c.in-Some.is))

pub loop-number-preserved : goal.loop-number-preserved
loop-number-preserved c =
    let peers = c.args.peers.now in
    let number = c.loop-number.number in
    let peer = c.index-peers-number.result in
    first_fault-later (own_tests peers) peers number peer c.loop-number-test.true c.index-peers-number.is c.loop-number.invariant
    (own_fault peers number (peer_of peer) ∙ sym c.peer_fault.ensures ∙ c.in_default.is)
