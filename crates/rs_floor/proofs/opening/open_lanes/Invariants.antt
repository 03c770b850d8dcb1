use Rattle.std.proofs.Common.{◌≡◌, ◌<◌, ℕ, List, Some, length, map}
use Rattle.std.specs.Prelude.{slice_get}
use Rattle.rs_choice.specs.Plan.{Peer, id_of}
use Rattle.rs_floor.specs.Lane.{fresh_lane}
use Rattle.rs_floor.proofs.opening.open_lanes.Given as goal

abbrev pub invariant-loop-number : goal.invariant-loop-number
invariant-loop-number l = record {
  as_many : length l.lanes.items ≡ l.number;
  fresh : (number : ℕ) (peer : Peer) (file : List ℕ) → number < l.number → slice_get l.plan.peers number ≡ Some peer
      → slice_get (map (λ file. file.now) l.files) number ≡ Some file
      → slice_get l.lanes.items number ≡ Some (fresh_lane l.capacity (id_of peer) file);
}
