-- Each answer is one search, so that a wrong body is refused soon.
use Rattle.std.proofs.Common.{rules}
use Rattle.rs_update.proofs.spelling.push_passed_on.Goals as goal

pub returns : goal.returns
returns c = search rules

pub returns-then-not-is_transitive : goal.returns-then-not-is_transitive
returns-then-not-is_transitive c = search rules
