-- The lanes of all peers, turn by turn: for `receive` of steps.rt.
use Rattle.std.proofs.Common.{◌≡◌, ◌≢◌, sym, ap, refl, ℕ}
use Rattle.std.specs.Prelude.{◌==◌}
use Rattle.std.proofs.lemmas.Bool.{cond-false, cond-true, eq-eqb, ne_eqb}
use Rattle.rs_floor.specs.Lane.{LaneContent, lane_after}
use Rattle.rs_floor.specs.Schedule.{after_receive}
use Rattle.rs_floor.specs.declared.counts.Counts.{Counts}
use Rattle.rs_floor.specs.declared.turn.Turn.TheVariants.{Receive}

-- a turn changes only the lane of its own peer
pub receive-own : (peer : ℕ) (lane : LaneContent) → lane_after peer lane (Receive peer) ≡ record lane { counts = after_receive lane.counts }
receive-own peer lane =
    ap (λ (counts : Counts). let made : LaneContent = record lane { counts = counts } in made)
    (cond-true (peer == peer) (after_receive lane.counts) lane.counts (eq-eqb peer peer refl))

pub receive-other : (peer other : ℕ) (lane : LaneContent) → other ≢ peer → lane_after other lane (Receive peer) ≡ lane
receive-other peer other lane apart =
    ap (λ (counts : Counts). let made : LaneContent = record lane { counts = counts } in made)
    (cond-false (peer == other) (after_receive lane.counts) lane.counts (ne_eqb peer other (λ e. apart (sym e))))
