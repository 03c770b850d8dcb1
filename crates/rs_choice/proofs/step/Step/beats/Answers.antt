-- Each answer is one search, so that a wrong body is refused soon.
use Rattle.std.proofs.Common.{rules}
use Rattle.rs_choice.proofs.step.Step.beats.Goals as goal

pub returns-in-Preference : goal.returns-in-Preference
returns-in-Preference c = search rules

pub returns-in-PathLength : goal.returns-in-PathLength
returns-in-PathLength c = search rules

pub returns-in-Origin : goal.returns-in-Origin
returns-in-Origin c = search rules

pub returns-then-one-other : goal.returns-then-one-other
returns-then-one-other c = search rules

pub returns-else-one-other : goal.returns-else-one-other
returns-else-one-other c = search rules

pub returns-in-Identifier : goal.returns-in-Identifier
returns-in-Identifier c = search rules

pub returns-in-Address : goal.returns-in-Address
returns-in-Address c = search rules
