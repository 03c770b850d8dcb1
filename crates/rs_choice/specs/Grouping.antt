-- What is known of the entrants that the pass over neighbour groups has seen.
use Rattle.std.specs.Prelude.{◌≡◌, ◌≢◌, ◌<◌, ◌≤◌, ◌↔◌, ℕ, ◌⊎◌, IsTrue, List, length, map, Option, None, Some}
use Rattle.std.specs.Prelude.{slice_get, slice_index_or}
use Rattle.rs_choice.specs.declared.candidate.Standing.{Standing}
use Rattle.rs_choice.specs.declared.candidate.Placed.{Placed}
use Rattle.rs_choice.specs.declared.neighbour_groups.Group.{Group}
use Rattle.rs_choice.specs.Decision.{no_standing}
use Rattle.rs_choice.specs.Comparison.{IsAhead, IsLevel, HasLowerMed, Precedes}

-- the standing at a place
abbrev pub standing_in : List Standing → ℕ → Standing
standing_in standings place = slice_index_or standings place no_standing

-- one is before the other by identifier, then address, then place
abbrev pub GoesBefore : Standing → ℕ → Standing → ℕ → Type 0
GoesBefore one place other other_place =
    Precedes one other ⊎ ((one.id ≡ other.id) × (one.address ≡ other.address) × (place < other_place))

-- one is before the other by MED, then identifier, then address, within one neighbour AS
abbrev pub BeatsInGroup : Standing → Standing → Type 0
BeatsInGroup one other = (one.med < other.med) ⊎ ((one.med ≡ other.med) × Precedes one other)

-- One entrant stands for another. It is before the other in the first three steps. Or it is equal there, has the
-- same neighbour AS, and the other does not beat it within this AS.
abbrev pub StandsFor : Standing → ℕ → Standing → ℕ → Type 0
StandsFor one place other other_place =
    IsAhead one other
    ⊎ (IsLevel one other × (one.neighbour ≡ other.neighbour)
    × ((one.med < other.med)
    ⊎ ((one.med ≡ other.med)
    × (Precedes one other ⊎ ((one.id ≡ other.id) × (one.address ≡ other.address) × (place ≤ other_place))))))

-- Of the first n entrants, some stand for all. No entrant is before them in the first three steps, and each has a
-- neighbour AS of its own.
pub record IsGrouping (standing : ℕ → Standing) (n : ℕ) (groups : List ℕ) : Type 0 where
  pub few : length groups ≤ n
  pub within : (group place : ℕ) → slice_get groups group ≡ Some place → place < n
  pub front : (group place : ℕ) → slice_get groups group ≡ Some place → (k : ℕ) → k < n
      → IsAhead (standing k) (standing place) → ⊥
  pub all : (k : ℕ) → k < n
      → (group : ℕ) × (place : ℕ) × (slice_get groups group ≡ Some place)
      × StandsFor (standing place) place (standing k) k
  pub apart : (i j place other : ℕ) → slice_get groups i ≡ Some place → slice_get groups j ≡ Some other
      → (standing place).neighbour ≡ (standing other).neighbour → i ≡ j

-- the places of the entrants that stand for groups
abbrev pub places_of : List Group → List ℕ
places_of groups = map (λ group. group.place) groups

-- The groups of the first n entrants: for each group one entrant stands for all others. Each group is known by its
-- neighbour AS. A group is marked if its entrant removes another one by MED.
pub record AreGroups (standing : ℕ → Standing) (n : ℕ) (groups : List Group) : Type 0 where
  pub grouping : IsGrouping standing n (places_of groups)
  pub neighbours : (i : ℕ) (group : Group) → slice_get groups i ≡ Some group
      → group.neighbour ≡ (standing group.place).neighbour
  pub keeps_out : (i : ℕ) (group : Group) → slice_get groups i ≡ Some group → (k : ℕ) → k < n
      → IsLevel (standing k) (standing group.place) →
      HasLowerMed (standing group.place) (standing k) → IsTrue group.keeps_out

-- The leader is one of the entrants that stand for groups, and equal to all of them in the first three steps. None:
-- there are no groups.
abbrev pub LeadsAll : (ℕ → Standing) → List Group → Option Standing → Type 0
LeadsAll standing groups None = length groups ≡ 0
LeadsAll standing groups (Some leader) =
    (0 < length groups)
    × ((i : ℕ) (group : Group) → slice_get groups i ≡ Some group → IsLevel leader (standing group.place))

-- the entrant at a place is equal to one of the groups in the first three steps
abbrev pub IsLevelWithSome : (ℕ → Standing) → ℕ → List ℕ → Type 0
IsLevelWithSome standing place groups =
    (group : ℕ) × (held : ℕ) × (slice_get groups group ≡ Some held) × IsLevel (standing place) (standing held)

-- the group of a neighbour AS; None if no group has this AS
abbrev pub IsNeighboursGroup : List Group → ℕ → Option ℕ → Type 0
IsNeighboursGroup groups neighbour None =
    (i : ℕ) (group : Group) → slice_get groups i ≡ Some group → group.neighbour ≡ neighbour → ⊥
IsNeighboursGroup groups neighbour (Some i) =
    (group : Group) × (slice_get groups i ≡ Some group) × (group.neighbour ≡ neighbour)

-- A group gets one more entrant of its neighbour AS. The new group has the entrant that stands for both. It is
-- marked if the group was marked before, or if one of the two removes the other by MED.
pub record IsJoined (group : Group) (held : Standing) (came : ℕ) (one : Standing) (joined : Group) : Type 0 where
  pub place : (BeatsInGroup one held × (joined.place ≡ came))
      ⊎ ((BeatsInGroup one held → ⊥) × (joined.place ≡ group.place))
  pub keeps_out : IsTrue joined.keeps_out ↔ (IsTrue group.keeps_out ⊎ (one.med ≢ held.med))
  pub neighbour : joined.neighbour ≡ group.neighbour

-- the entrant is before the first one; true if there is no first one
abbrev pub GoesBeforeSome : Placed → Option Placed → Type 0
GoesBeforeSome one None = Unit {0}
GoesBeforeSome one (Some first) = GoesBefore one.standing one.place first.standing first.place

-- of the first n groups, this is the entrant before all others; None if there are no groups
abbrev pub IsFirstOf : (ℕ → Standing) → List ℕ → ℕ → Option Placed → Type 0
IsFirstOf standing groups n None = n ≡ 0
IsFirstOf standing groups n (Some first) =
    ((group : ℕ) × (slice_get groups group ≡ Some first.place))
    × (first.standing ≡ standing first.place)
    × ((group place : ℕ) → group < n → slice_get groups group ≡ Some place
    → GoesBefore (standing place) place first.standing first.place → ⊥)
