use Rattle.std.proofs.Common.{◌≡◌, ◌<◌, ◌≤◌, ℕ, [], length, slice_index_or}
use Rattle.rs_start.specs.Sessions.{EndsBy}
use Rattle.rs_start.specs.declared.sessions.PeerSession.{PeerSession}
use Rattle.rs_start.proofs.sessions.finish_all.Given as goal

-- The sessions so far were written whole, with the counts that they had, and the others are as they were.
abbrev pub invariant-loop-place : goal.invariant-loop-place
invariant-loop-place g l = record {
  count : length l.sessions ≡ length l.fn.sessions;
  done : (k : ℕ) (d : PeerSession g.row.W.Denot) → k < l.place → k < length l.fn.sessions
      → EndsBy g.W.Write.taken (slice_index_or l.fn.sessions k d).writer (slice_index_or l.sessions k d).writer []
      × ((slice_index_or l.sessions k d).counts ≡ (slice_index_or l.fn.sessions k d).counts);
  to_do : (k : ℕ) (d : PeerSession g.row.W.Denot) → l.place ≤ k → slice_index_or l.sessions k d ≡ slice_index_or l.fn.sessions k d;
}
