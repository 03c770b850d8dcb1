use Rattle.std.proofs.Common.{◌∙◌, ◌++◌, sym, map, rules}
use Rattle.rs_choice.specs.Plan.{peer_of, whole_tests, peers_tests, names_tests}
use Rattle.rs_choice.proofs.plan.PlanLemmas.{first_fault-Some, first_fault-None}
use Rattle.rs_choice.proofs.checks.plan_fault.Goals as goal

pub returns-in-Some-first_peer_fault : goal.returns-in-Some-first_peer_fault
returns-in-Some-first_peer_fault c =
    let peers = map peer_of c.args.peers.now in
    let whole = whole_tests c.args.local.now peers in
    let whole_none = sym c.whole_fault.ensures ∙ c.in_default.is in
    let found = sym c.first_peer_fault.ensures ∙ c.in-Some-first_peer_fault.is in
    sym (first_fault-Some (whole ++ peers_tests peers) (names_tests peers) c.in-Some-first_peer_fault.fault
    (first_fault-None whole (peers_tests peers) whole_none ∙ found))

pub returns : goal.returns
returns c =
    let peers = map peer_of c.args.peers.now in
    let whole = whole_tests c.args.local.now peers in
    let whole_none = sym c.whole_fault.ensures ∙ c.in_default.is in
    let peers_none = sym c.first_peer_fault.ensures ∙ c.in_default-first_peer_fault.is in
    c.first_unknown_name.ensures
    ∙ sym (first_fault-None (whole ++ peers_tests peers) (names_tests peers)
    (first_fault-None whole (peers_tests peers) whole_none ∙ peers_none))

pub returns-in-Some : goal.returns-in-Some
returns-in-Some c = search rules
