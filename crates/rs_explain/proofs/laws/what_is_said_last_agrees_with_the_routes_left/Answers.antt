use Rattle.rs_explain.proofs.SaidLaws.{announced_is_left, ended_is_gone, never_announced}
use Rattle.rs_explain.proofs.laws.what_is_said_last_agrees_with_the_routes_left.Goals as goal

pub returns-clause-announced : goal.returns-clause-announced
returns-clause-announced c prefix changes time said keeps = announced_is_left prefix changes time said keeps

pub returns-clause-never : goal.returns-clause-never
returns-clause-never c prefix changes none route leaves = never_announced prefix changes none route leaves

pub returns-clause-ended : goal.returns-clause-ended
returns-clause-ended c prefix changes time ending said route leaves = ended_is_gone prefix changes time ending said route leaves
