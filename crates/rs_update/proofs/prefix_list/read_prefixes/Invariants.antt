use Rattle.std.proofs.Common.{◌≡◌, ◌++◌, length}
use Rattle.rs_types.specs.Parts.{parts_of}
use Rattle.rs_types.specs.Prefix.{prefix_at}
use Rattle.rs_update.proofs.prefix_list.read_prefixes.Given as goal

-- those read and those behind are all
abbrev pub invariant-loop-split : goal.invariant-loop-split
invariant-loop-split l = l.prefixes.items ++ (parts_of prefix_at l.rest).0 ≡ (parts_of prefix_at l.field).0

abbrev pub decreases-loop-split : goal.decreases-loop-split
decreases-loop-split l = length l.rest
