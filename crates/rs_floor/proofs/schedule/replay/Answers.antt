-- From nothing received, turn by turn, to the end of the schedule.
use Rattle.std.proofs.Common.{◌≡◌, ◌∙◌, sym, ap, subst, rules, ℕ, List, Bor, map, length, Some}
use Rattle.std.specs.Prelude.{slice_get}
use Rattle.std.proofs.lemmas.List.{length-map}
use Rattle.rs_choice.specs.Plan.{Peer, Plan, id_of}
use Rattle.rs_floor.specs.FloorContent.{FloorContent, IsReplayed, recorded_by}
use Rattle.rs_floor.specs.Lane.{LaneContent, fresh_lane}
use Rattle.rs_floor.specs.Steps.{HoldReceived}
use Rattle.rs_floor.proofs.schedule.ReplayLemmas.{held-fresh, replayed}
use Rattle.rs_floor.proofs.schedule.replay.Goals as goal

pub run_turns-requires-clause-held : goal.run_turns-requires-clause-held
run_turns-requires-clause-held c =
    let files = map (λ (file : Bor (List ℕ)). file.now) c.args.files.now in
    let many : length files ≡ length c.args.files.now = length-map c.args.files.now (λ file. file.now) in
    let plan_is : c.deref.result.now ≡ c.args.plan.now.value = c.deref.ensures in
    let P : List LaneContent → Type 0 = λ lanes. HoldReceived c.in_ok-tables.tables lanes in
    subst P (sym c.deref_mut.ensures.value) (held-fresh c.deref.result.now files c.args.capacity c.in_ok-lanes.lanes.items
    c.in_ok-tables.tables
    (many ∙ c.requires.files ∙ sym (ap (λ (plan : Plan). length plan.peers) plan_is)) (c.in_ok-lanes.ensures.count ∙ sym many)
    c.in_ok-lanes.ensures.fresh c.in_ok-tables.ensures.empty)

pub returns-clause-floor : goal.returns-clause-floor
returns-clause-floor c =
    let plan = c.args.plan.now.value in
    let files = map (λ (file : Bor (List ℕ)). file.now) c.args.files.now in
    let many : length files ≡ length c.args.files.now = length-map c.args.files.now (λ file. file.now) in
    let before : c.deref_mut.result.now ≡ c.in_ok-lanes.lanes.items = c.deref_mut.ensures.value in
    let of_plan : c.in_ok-tables.tables.plan ≡ plan = search rules in
    let ribs : length c.in_ok-tables.tables.ribs ≡ length plan.peers = search rules in
    let Fresh : Plan → List LaneContent → Type 0 =
    λ held lanes. (number : ℕ) (peer : Peer) (file : List ℕ) → slice_get held.peers number ≡ Some peer
    → slice_get files number ≡ Some file → slice_get lanes number ≡ Some (fresh_lane c.args.capacity (id_of peer) file) in
    let OfPlan : Plan → Type 0 = λ held. Fresh held c.in_ok-lanes.lanes.items in
    let OfLanes : List LaneContent → Type 0 = λ lanes. Fresh plan lanes in
    let fresh : OfLanes c.deref_mut.result.now = subst OfLanes (sym before) (subst OfPlan c.deref.ensures c.in_ok-lanes.ensures.fresh) in
    let P : FloorContent → Type 0 = λ floor. IsReplayed plan (recorded_by plan files) c.args.capacity c.args.turns.now floor in
    subst P (sym c.new-2.ensures) (replayed plan files c.args.capacity c.args.turns.now c.deref_mut.result.now c.run_turns.new.tables
    c.in_ok-counts.counts.items
    (many ∙ c.requires.files) (ap (λ (lanes : List LaneContent). length lanes) before ∙ c.in_ok-lanes.ensures.count ∙ sym many)
    (c.in_ok-counts.ensures.plan.0 ∙ of_plan) (c.in_ok-counts.ensures.plan.1 ∙ ribs) fresh c.in_ok-counts.ensures.end)
