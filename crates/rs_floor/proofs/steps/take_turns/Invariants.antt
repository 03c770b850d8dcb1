use Rattle.std.proofs.Common.{◌≡◌, ℕ, length, drop}
use Rattle.std.specs.Prelude.{slice_get}
use Rattle.std.specs.Option.{option_map}
use Rattle.rs_floor.specs.Lane.{lane_through}
use Rattle.rs_floor.specs.Steps.{HoldReceived}
use Rattle.rs_floor.proofs.steps.take_turns.Given as goal

abbrev pub invariant-loop-turn : goal.invariant-loop-turn
invariant-loop-turn l = record {
  turned : (peer : ℕ) → option_map (lane_through (drop l.turn-index l.turns) peer) (slice_get l.lanes peer)
      ≡ option_map (lane_through l.turns peer) (slice_get l.fn.lanes peer);
  held : HoldReceived l.tables l.lanes;
  count : length l.lanes ≡ length l.tables.plan.peers;
  plan : l.tables.plan ≡ l.fn.tables.plan;
  ribs : length l.tables.ribs ≡ length l.fn.tables.ribs;
}
