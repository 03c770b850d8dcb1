use Rattle.std.proofs.Common.{◌≡◌, ◌≤◌, ◌+◌, length}
use Rattle.rs_types.specs.Parts.{parts_of}
use Rattle.rs_types.specs.Prefix.{prefix_at}
use Rattle.rs_update.proofs.prefix_list.count_prefixes.Given as goal

-- those counted and those behind are all, and what is left over is the same
abbrev pub invariant-loop-split : goal.invariant-loop-split
invariant-loop-split l = record {
  counted : l.count + length (parts_of prefix_at l.rest).0 ≡ length (parts_of prefix_at l.field).0;
  left_over : (parts_of prefix_at l.rest).1 ≡ (parts_of prefix_at l.field).1;
  few : l.count + length l.rest ≤ length l.field;
}

abbrev pub decreases-loop-split : goal.decreases-loop-split
decreases-loop-split l = length l.rest
