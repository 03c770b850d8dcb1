use Rattle.rs_choice.specs.Grouping.{standing_in, AreGroups, LeadsAll}
use Rattle.rs_choice.proofs.decision.group_all.Given as goal

-- the first entrants are in their groups, and the leader leads them
abbrev pub invariant-loop-place : goal.invariant-loop-place
invariant-loop-place g l = record {
  grouped : AreGroups (standing_in (g.E.Entrants.standings l.entrants)) l.place l.groups;
  leads : LeadsAll (standing_in (g.E.Entrants.standings l.entrants)) l.groups l.leader;
}
