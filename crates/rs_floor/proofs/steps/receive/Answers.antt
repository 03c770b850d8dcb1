-- A change that is received is the next one recorded, and the tables take it.
use Rattle.std.proofs.Common.{◌≡◌, ◌∙◌, sym, ap, arith, Some, get_or, rules}
use Rattle.std.proofs.lemmas.Grind.{common_steps}
use Rattle.std.specs.Prelude.{slice_get}
use Rattle.std.proofs.lemmas.Option.{slice_get-get_or}
use Rattle.rs_session.specs.Change.{change_of}
use Rattle.rs_table.specs.Content.{RibContent}
use Rattle.rs_floor.specs.Lane.{LaneContent, lane_after}
use Rattle.rs_floor.specs.declared.turn.Turn.TheVariants.{Receive}
use Rattle.rs_floor.proofs.schedule.StepLemmas.{receive-own, receive-other}
use Rattle.rs_floor.proofs.schedule.HeldLemmas.{held-after, ok-anyway, ok-both}
use Rattle.rs_patience.proofs.PlaceLemmas.{one-turned}
use Rattle.rs_floor.proofs.steps.receive.Goals as goal

pub apply-requires-clause-open : goal.apply-requires-clause-open
apply-requires-clause-open c =
    let lane : LaneContent = get_or c.args.lanes.now c.args.peer c.index-lanes-peer.result in
    let at : slice_get c.args.lanes.now c.args.peer ≡ Some lane =
    slice_get-get_or c.args.lanes.now c.args.peer c.index-lanes-peer.result (omega (arith, c.if-peer-lanes.false)) in
    ap (λ (rib : RibContent). rib.closed) (c.requires.held c.args.peer lane at) ∙ c.in-Some.ensures.open

pub returns-clause-turn : goal.returns-clause-turn
returns-clause-turn c =
    let lane : LaneContent = get_or c.args.lanes.now c.args.peer c.index-lanes-peer.result in
    let at : slice_get c.args.lanes.now c.args.peer ≡ Some lane =
    slice_get-get_or c.args.lanes.now c.args.peer c.index-lanes-peer.result (omega (arith, c.if-peer-lanes.false)) in
    ok-anyway c.apply.result _ (one-turned (λ other lane. lane_after other lane (Receive c.args.peer))
    c.args.lanes.now c.args.peer lane c.receive.new.self at
    (c.in-Some.ensures.counts ∙ sym (receive-own c.args.peer lane)) (λ other lane apart. receive-other c.args.peer other lane apart))

pub returns-clause-held : goal.returns-clause-held
returns-clause-held c =
    let lane : LaneContent = get_or c.args.lanes.now c.args.peer c.index-lanes-peer.result in
    let at : slice_get c.args.lanes.now c.args.peer ≡ Some lane =
    slice_get-get_or c.args.lanes.now c.args.peer c.index-lanes-peer.result (omega (arith, c.if-peer-lanes.false)) in
    ok-both c.apply.result _ _ _ c.apply.ensures.routes c.apply.ensures.closed (λ become closed.
    held-after c.args.lanes.now c.args.tables.now c.apply.new.self c.args.peer lane c.receive.new.self (change_of c.in-Some.word)
    c.requires.held at
    c.in-Some.ensures.counts c.in-Some.ensures.more c.in-Some.ensures.given c.in-Some.ensures.open c.apply.ensures.others become closed)

pub returns-in_default-clause-held : goal.returns-in_default-clause-held
returns-in_default-clause-held g c = grind (arith, common_steps)

pub returns-then-peer-lanes-clause-held : goal.returns-then-peer-lanes-clause-held
returns-then-peer-lanes-clause-held g c = search rules
