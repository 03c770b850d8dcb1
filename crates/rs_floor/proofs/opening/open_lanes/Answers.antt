-- A lane for each peer, one after another.
use Rattle.std.proofs.Common.{[], ◌∷◌, length-append, map, arith, rules}
use Rattle.std.proofs.lemmas.List.{length-map}
use Rattle.rs_choice.specs.Plan.{peer_of}
use Rattle.rs_floor.proofs.schedule.OpeningLemmas.{one-more, all-opened}
use Rattle.rs_floor.proofs.opening.open_lanes.Goals as goal

pub new-requires-clause-file : goal.new-requires-clause-file
new-requires-clause-file c = c.requires.limit c.loop-number.number (record { ref_ptr = (0, 0); now = [] }) (omega arith)

pub loop-number-preserved : goal.loop-number-preserved
loop-number-preserved c =
    let opened = one-more c.args.plan.now.peers c.args.files.now c.args.capacity c.loop-number.lanes.items c.in_ok-new.field-0
    c.loop-number.number (peer_of c.peer-peer.result.now) (record { ref_ptr = (0, 0); now = [] })
    c.loop-number.invariant.as_many c.loop-number.invariant.fresh c.peer-peer.ensures (omega arith)
    (rw c.peer_id.ensures at c.in_ok-new.ensures) in
    record {
      as_many =
          rw c.in_ok-push.ensures.items (omega (
            arith,
            c.loop-number.invariant.as_many,
            length-append c.loop-number.lanes.items (c.in_ok-new.field-0 ∷ []),
          ));
      fresh = rw c.in_ok-push.ensures.items opened;
    }

pub returns-clause-fresh : goal.returns-clause-fresh
returns-clause-fresh c =
    all-opened c.args.plan.now.peers (map (λ file. file.now) c.args.files.now)
    c.args.capacity c.loop-number.lanes.items c.loop-number.number
    (omega (arith, c.requires.files, length-map c.args.files.now (λ file. file.now))) c.loop-number.invariant.fresh

pub loop-number-init : goal.loop-number-init
loop-number-init c = search rules

pub loop-number-smaller : goal.loop-number-smaller
loop-number-smaller c = search rules
