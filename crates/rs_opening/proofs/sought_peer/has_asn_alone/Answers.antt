-- One peer more is counted, if it has the AS number.
use Rattle.std.proofs.Common.{◌≡◌, ◌∙◌, ◌==◌, ap, arith, false, true}
use Rattle.std.proofs.lemmas.Bool.Decides.{nat_tests}
use Rattle.std.proofs.lemmas.List.Sums.{count_by_more_no, count_by_more_yes}
use Rattle.std.proofs.lemmas.Option.{get_or_from_slice_get, slice_get_within}
use Rattle.rs_choice.specs.Plan.{Peer, peer_of}
use Rattle.rs_opening.proofs.sought_peer.has_asn_alone.Goals as goal
use Rattle.rs_opening.proofs.sought_peer.has_asn_alone.Goals.{then-peer-asn, else-peer-asn}

pub loop-other-preserved : goal.loop-other-preserved
loop-other-preserved c =
    let peers = c.args.plan.now.peers in
    let other = c.loop-other.other in
    let one = peer_of c.peer-in-loop-other.result.now in
    let has_asn = λ (peer : Peer). peer.asn == c.peer.result.now.asn in
    let within = slice_get_within peers other one c.peer-in-loop-other.ensures in
    let here = get_or_from_slice_get peers other one one c.peer-in-loop-other.ensures in
    elim c.if-peer-asn.branch [
      | then-peer-asn w ↦
          let has : has_asn one ≡ true = grind (arith, nat_tests, w.if-peer-asn.true) in
          let more = count_by_more_yes has_asn peers other one within (ap has_asn here ∙ has) in
          record {
            few = omega (arith, w.count-is, c.loop-other.invariant.few);
            counted = omega (arith, w.count-is, more, c.loop-other.invariant.counted);
          }
      | else-peer-asn w ↦
          let has_not : has_asn one ≡ false = grind (arith, nat_tests, w.if-peer-asn.false) in
          let more = count_by_more_no has_asn peers other one within (ap has_asn here ∙ has_not) in
          record {
            few = omega (arith, w.count-is, c.loop-other.invariant.few);
            counted = omega (arith, w.count-is, more, c.loop-other.invariant.counted);
          }
    ]
