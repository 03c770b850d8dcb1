use Rattle.std.proofs.Common.{◌≡◌, ◌≤◌, ◌++◌, List, ℕ, length}
use Rattle.rs_types.specs.Gathered.{look}
use Rattle.rs_types.specs.Parts.{AreOctets}
use Rattle.rs_types.specs.Section.{items_of}
use Rattle.rs_types.proofs.item.place_of.Given as goal

abbrev pub invariant-loop-front : goal.invariant-loop-front
invariant-loop-front l =
    (length l.rest ≤ length l.section) × (before : List ℕ) × (l.section ≡ before ++ l.rest) × AreOctets l.rest
    × (look l.kind (items_of l.rest) ≡ look l.kind (items_of l.section))

abbrev pub decreases-loop-front : goal.decreases-loop-front
decreases-loop-front l = length l.rest
