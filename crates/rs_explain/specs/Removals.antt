-- How the decision process removes a candidate (RFC 4271, sections 9.1.1 and 9.1.2.2).
use Rattle.std.specs.Prelude.{◌≡◌, Bool, not, ◌&&◌, List, ◌∷◌, ◌++◌, Option, Some}
use Rattle.std.specs.List.{find, Contains}
use Rattle.rs_choice.specs.declared.candidate.Standing.{Standing}
use Rattle.rs_choice.specs.declared.step.Step.{Step}
use Rattle.rs_choice.specs.declared.step.Step.TheVariants as steps
use Rattle.rs_choice.specs.Decision.{beats, remaining}
use Rattle.rs_explain.specs.declared.contender.Contender.{Contender}
use Rattle.rs_explain.specs.declared.removal.Removal.{Removal}
use Rattle.rs_explain.specs.Contenders.{standing_in}

-- the candidate that beats another at a step: the best one of all, or else the first of the set that does
abbrev pub rival_of : Step → Contender → List Contender → Contender → Option Contender
rival_of step best set loser = find (λ other. beats step other.standing loser.standing) (best ∷ set)

-- Steps remove a candidate of a set. It is left by the steps before the named one, and is beaten at the named step.
pub record IsRemoval (steps : List Step) (set : List Contender) (best loser : Contender)
    (removal : Removal) : Type 0 where
  pub before : List Step
  pub after : List Step
  pub order : steps ≡ before ++ removal.step ∷ after
  pub removed : removal.loser ≡ loser
  pub reaches : Contains (remaining standing_in before set) loser
  pub rival : rival_of removal.step best (remaining standing_in before set) loser ≡ Some removal.rival

-- one candidate beats another by MED, though the best one does not remove it before that step
abbrev pub beats_by_med : Standing → Standing → Standing → Bool
beats_by_med best one other =
    not (beats steps.Preference best other) && (not (beats steps.PathLength best other)
    && (not (beats steps.Origin best other) && beats steps.Med other one))
