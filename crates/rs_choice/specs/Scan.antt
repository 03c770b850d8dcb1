-- What the code of the decision process knows of a list of candidates while it goes over the list.
use Rattle.std.specs.Prelude.{◌≡◌, ◌<◌, ◌≤◌, ℕ, ◌⊎◌, List, Option, None, Some, slice_get}
use Rattle.rs_choice.specs.declared.candidate.Candidate.{Candidate}
use Rattle.rs_choice.specs.declared.candidate.Standing.{Standing}
use Rattle.rs_choice.specs.declared.candidate.Placed.{Placed}
use Rattle.rs_choice.specs.Plan.{Plan}
use Rattle.rs_choice.specs.Decision.{standing_of_candidate}
use Rattle.rs_choice.specs.Comparison.{IsAhead, IsLevel, HasLowerMed, Precedes}

-- the candidate at a place has this standing
abbrev pub IsStandingAt : Plan → List Candidate → ℕ → Standing → Type 0
IsStandingAt plan candidates place one =
    (candidate : Candidate) × (slice_get candidates place ≡ Some candidate)
    × (standing_of_candidate plan candidate ≡ one)

-- no candidate is before this standing in the first three steps
abbrev pub HasNoneAhead : Plan → List Candidate → Standing → Type 0
HasNoneAhead plan candidates one =
    (k : ℕ) (candidate : Candidate) → slice_get candidates k ≡ Some candidate
    → IsAhead (standing_of_candidate plan candidate) one → ⊥

-- of the candidates equal to this standing in the first three steps, none from the same neighbour AS has a lower MED
abbrev pub HasLeastMed : Plan → List Candidate → Standing → Type 0
HasLeastMed plan candidates one =
    (k : ℕ) (candidate : Candidate) → slice_get candidates k ≡ Some candidate →
    IsLevel (standing_of_candidate plan candidate) one × HasLowerMed (standing_of_candidate plan candidate) one → ⊥

-- the standing is before the leader in the first three steps; true if there is no leader
abbrev pub Leads : Standing → Option Standing → Type 0
Leads one None = Unit {0}
Leads one (Some leader) = IsAhead one leader

-- the leader is the standing of one of the first n candidates, and none of these is before it; None if there is no
-- candidate
abbrev pub IsLeader : Plan → List Candidate → ℕ → Option Standing → Type 0
IsLeader plan candidates n None =
    (k : ℕ) → k < n → (candidate : Candidate) → slice_get candidates k ≡ Some candidate → ⊥
IsLeader plan candidates n (Some leader) =
    ((place : ℕ) × IsStandingAt plan candidates place leader)
    × ((k : ℕ) → k < n → (candidate : Candidate) → slice_get candidates k ≡ Some candidate
    → IsAhead (standing_of_candidate plan candidate) leader → ⊥)

-- the first four steps leave a candidate of this standing
abbrev pub IsLeftByMed : Plan → List Candidate → Standing → Type 0
IsLeftByMed plan candidates one = HasNoneAhead plan candidates one × HasLeastMed plan candidates one

-- the standing is before the best one by identifier and address; true if there is no best one
abbrev pub GoesFirst : Standing → Option Placed → Type 0
GoesFirst one None = Unit {0}
GoesFirst one (Some best) = Precedes one best.standing

-- the best one is before another by identifier and address, or is equal and at an earlier place
abbrev pub Holds : Placed → ℕ → Standing → Type 0
Holds best place other =
    Precedes best.standing other
    ⊎ ((best.standing.id ≡ other.id) × (best.standing.address ≡ other.address) × (best.place ≤ place))

-- The best one is among the first n candidates, the first four steps leave it, and it is before all other such
-- candidates. None says that there are none.
abbrev pub IsBest : Plan → List Candidate → ℕ → Option Placed → Type 0
IsBest plan candidates n None =
    (k : ℕ) → k < n → (candidate : Candidate) → slice_get candidates k ≡ Some candidate
    → IsLeftByMed plan candidates (standing_of_candidate plan candidate) → ⊥
IsBest plan candidates n (Some best) =
    (best.place < n)
    × IsStandingAt plan candidates best.place best.standing
    × IsLeftByMed plan candidates best.standing
    × ((k : ℕ) → k < n → (candidate : Candidate) → slice_get candidates k ≡ Some candidate →
    IsLeftByMed plan candidates (standing_of_candidate plan candidate)
    → Holds best k (standing_of_candidate plan candidate))
