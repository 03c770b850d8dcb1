-- Each answer is one search, so that a wrong body is refused soon.
use Rattle.std.proofs.Common.{rules}
use Rattle.rs_types.proofs.attributes.Attributes.communities.Goals as goal

pub invariant_of-result : goal.invariant_of-result
invariant_of-result c = search rules

pub returns : goal.returns
returns c = search rules

pub returns-in_err-item : goal.returns-in_err-item
returns-in_err-item c = search rules
