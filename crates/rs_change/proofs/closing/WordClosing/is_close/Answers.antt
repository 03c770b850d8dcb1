-- Each answer is one search, so that a wrong body is refused soon.
use Rattle.std.proofs.Common.{rules}
use Rattle.rs_change.proofs.closing.WordClosing.is_close.Goals as goal

pub returns-in-Close : goal.returns-in-Close
returns-in-Close c = search rules

pub returns-in_default : goal.returns-in_default
returns-in_default c = search rules
