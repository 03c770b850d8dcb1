-- Each answer is one search, so that a wrong body is refused soon.
use Rattle.std.proofs.Common.{rules}
use Rattle.rs_types.proofs.attribute_type.Lengths.admit.Goals as goal

pub returns-in-Exactly : goal.returns-in-Exactly
returns-in-Exactly c = search rules

pub returns-then-count-ne0 : goal.returns-then-count-ne0
returns-then-count-ne0 c = search rules

pub returns-else-count-ne0 : goal.returns-else-count-ne0
returns-else-count-ne0 c = search rules

pub returns-in-AnyLength : goal.returns-in-AnyLength
returns-in-AnyLength c = search rules
