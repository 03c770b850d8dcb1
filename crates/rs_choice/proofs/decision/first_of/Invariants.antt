use Rattle.rs_choice.specs.Grouping.{IsFirstOf, places_of, standing_in}
use Rattle.rs_choice.proofs.decision.first_of.Given as goal

abbrev pub invariant-loop-number : goal.invariant-loop-number
invariant-loop-number g l = IsFirstOf (standing_in (g.E.Entrants.standings l.entrants)) (places_of l.groups) l.number l.first
