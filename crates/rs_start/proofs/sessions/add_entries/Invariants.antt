use Rattle.rs_start.specs.Sessions.{AddsEntries}
use Rattle.rs_start.proofs.sessions.add_entries.Given as goal

-- the entries so far stand in front of the rest, and were added
abbrev pub invariant-loop-place : goal.invariant-loop-place
invariant-loop-place g l =
    AddsEntries g.W.Write.taken l.rib.prefix l._place l.rib.entries.now l.rest l.fn.sessions l.sessions
