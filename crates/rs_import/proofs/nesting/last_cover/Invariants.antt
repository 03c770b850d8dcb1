use Rattle.std.proofs.Common.{◌≡◌, ◌≤◌, false}
use Rattle.std.specs.List.{AllWithin}
use Rattle.rs_types.specs.Covering.{covers}
use Rattle.rs_import.specs.Nesting.{prefix_of}
use Rattle.rs_import.proofs.nesting.last_cover.Given as goal

-- none of the nodes so far covers the prefix
abbrev pub invariant-loop-count : goal.invariant-loop-count
invariant-loop-count l = (l.count ≤ l.end) × AllWithin (λ node. covers (prefix_of node) l.prefix ≡ false) l.nodes l.count l.end

abbrev pub decreases-loop-count : goal.decreases-loop-count
decreases-loop-count l = l.count
