use Rattle.std.proofs.Common.{take}
use Rattle.rs_start.specs.Tables.{IsLastUntil}
use Rattle.rs_start.proofs.tables.place_until.Given as goal

-- it is the last of the times so far
abbrev pub invariant-loop-place : goal.invariant-loop-place
invariant-loop-place l = IsLastUntil (take l.place l.times) l.until l.last
