use Rattle.std.proofs.Common.{◌≡◌, ◌≤◌, ◌<◌, ℕ, Some, length}
use Rattle.std.specs.List.{All, Contains}
use Rattle.std.specs.Prelude.{slice_get}
use Rattle.rs_choice.specs.declared.neighbour_groups.Group.{Group}
use Rattle.rs_choice.specs.Sharing.{Weighs}
use Rattle.rs_choice.proofs.clients.weighing.Given as goal

-- of the first groups, the places of those that have a weight
abbrev pub invariant-loop-number : goal.invariant-loop-number
invariant-loop-number l = record {
  few : length l.weighing ≤ l.number;
  among : All (λ place. Contains l.fit place) l.weighing;
  all : (i : ℕ) → i < l.number → (group : Group) → slice_get l.groups i ≡ Some group → Weighs group l.first → (place : ℕ)
      → slice_get l.fit group.place ≡ Some place → Contains l.weighing place;
}
