-- The answer is one search, so that a wrong body is refused soon.
use Rattle.std.proofs.Common.{rules}
use Rattle.rs_picture.proofs.markup.push_shown.Goals as goal

pub returns-in_default : goal.returns-in_default
returns-in_default c = search rules
