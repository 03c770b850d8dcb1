use Rattle.std.proofs.Common.{◌≡◌, ◌<◌, ℕ, length, slice_index_or}
use Rattle.rs_dump.specs.SideBySide.{GoesOn}
use Rattle.rs_dump.specs.declared.side_by_side.Writing.{Writing}
use Rattle.rs_dump.proofs.side_by_side.write_in_turns.Given as goal

-- some rows of each dump were written
abbrev pub invariant-loop-turn : goal.invariant-loop-turn
invariant-loop-turn g l =
    let W = g.W.Write in
    record {
      count : length l.writings ≡ length l.fn.writings;
      each : (k : ℕ) (d : Writing g.row.W.Denot) → k < length l.fn.writings
          → GoesOn W.taken W.failures W.label (slice_index_or l.fn.writings k d) (slice_index_or l.writings k d);
    }
