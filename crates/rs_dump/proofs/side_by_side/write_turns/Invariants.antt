use Rattle.std.proofs.Common.{◌≡◌, ◌<◌, ◌≤◌, ℕ, length, slice_index_or}
use Rattle.rs_dump.specs.SideBySide.{Goes}
use Rattle.rs_dump.specs.declared.side_by_side.Writing.{Writing}
use Rattle.rs_dump.proofs.side_by_side.write_turns.Given as goal

-- the dumps so far were written on, and the others are as they were
abbrev pub invariant-loop-number : goal.invariant-loop-number
invariant-loop-number g l =
    let W = g.W.Write in
    record {
      count : length l.writings ≡ length l.fn.writings;
      done : (k : ℕ) (d : Writing g.row.W.Denot) → k < l.number → k < length l.fn.writings
          → Goes W.taken W.failures W.label (slice_index_or l.fn.writings k d) (slice_index_or l.writings k d);
      to_do : (k : ℕ) (d : Writing g.row.W.Denot) → l.number ≤ k → slice_index_or l.writings k d ≡ slice_index_or l.fn.writings k d;
    }
