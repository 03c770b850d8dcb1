use Rattle.std.proofs.Common.{◌≡◌, map, take}
use Rattle.rs_floor.proofs.opening.all_counts.Given as goal

abbrev pub invariant-loop-lane : goal.invariant-loop-lane
invariant-loop-lane l = l.counts.items ≡ map (λ lane. lane.counts) (take l.lane-index l.lanes)
