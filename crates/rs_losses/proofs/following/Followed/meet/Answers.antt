-- The answer is one search, so that a wrong body is refused soon.
use Rattle.std.proofs.Common.{rules}
use Rattle.rs_losses.proofs.following.Followed.meet.Goals as goal

pub returns-clause-behind : goal.returns-clause-behind
returns-clause-behind c = search rules
