use Rattle.std.proofs.Common.{◌≡◌, ◌<◌, ◌≤◌, ℕ}
use Rattle.std.specs.Prelude.{slice_index}
use Rattle.rs_choice.specs.GroupsView.{chain_of, IsLastOf}
use Rattle.rs_choice.proofs.neighbour_groups.NeighbourGroups.find.Given as goal

-- a group of the neighbour AS is before those that were looked at, and no later in the chain than the next one
abbrev pub invariant-loop-number : goal.invariant-loop-number
invariant-loop-number l = record {
  within : l.end ≤ l.initial.end;
  last : IsLastOf l.neighbours l.end (chain_of l.neighbour) l.number;
  passed : (i : ℕ) → l.end ≤ i → i < l.initial.end → slice_index l.neighbours i ≡ l.neighbour → ⊥;
}

abbrev pub decreases-loop-number : goal.decreases-loop-number
decreases-loop-number l = l.end
