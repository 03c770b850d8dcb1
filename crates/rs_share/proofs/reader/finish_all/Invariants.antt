-- The lines from this place on are as they were.
use Rattle.std.proofs.Common.{◌≡◌, drop, length}
use Rattle.rs_share.proofs.reader.finish_all.Given as goal

abbrev pub invariant-loop-place : goal.invariant-loop-place
invariant-loop-place g l =
    (drop l.place l.lines.items ≡ drop l.place l.initial.lines.items) × (length l.lines.items ≡ length l.initial.lines.items)
