use Rattle.std.proofs.Common.{◌≡◌, ◌≤◌, take}
use Rattle.rs_opening.specs.Opening.{count_of_asn}
use Rattle.rs_opening.proofs.sought_peer.has_asn_alone.Given as goal

-- of the first peers, those with the AS number are counted
abbrev pub invariant-loop-other : goal.invariant-loop-other
invariant-loop-other l = record {
  few : l.count ≤ l.other;
  counted : l.count ≡ count_of_asn (take l.other l.plan.peers) l.asn;
}
