-- Each answer is one search, so that a wrong body is refused soon.
use Rattle.std.proofs.Common.{rules}
use Rattle.rs_types.proofs.attribute_type.AttributeType.of.Goals as goal

pub returns-in-17 : goal.returns-in-17
returns-in-17 c = search rules

pub returns-in_default : goal.returns-in_default
returns-in_default c = search rules

pub returns-in-1 : goal.returns-in-1
returns-in-1 c = search rules

pub returns-in-14 : goal.returns-in-14
returns-in-14 c = search rules

pub returns-in-15 : goal.returns-in-15
returns-in-15 c = search rules

pub returns-in-18 : goal.returns-in-18
returns-in-18 c = search rules

pub returns-in-2 : goal.returns-in-2
returns-in-2 c = search rules

pub returns-in-3 : goal.returns-in-3
returns-in-3 c = search rules

pub returns-in-4 : goal.returns-in-4
returns-in-4 c = search rules

pub returns-in-5 : goal.returns-in-5
returns-in-5 c = search rules

pub returns-in-6 : goal.returns-in-6
returns-in-6 c = search rules

pub returns-in-7 : goal.returns-in-7
returns-in-7 c = search rules

pub returns-in-8 : goal.returns-in-8
returns-in-8 c = search rules
