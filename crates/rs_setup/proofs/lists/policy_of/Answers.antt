-- One search, so that a wrong body is refused soon.
use Rattle.std.proofs.Common.{rules}
use Rattle.rs_setup.proofs.lists.policy_of.Goals as goal

pub returns : goal.returns
returns g c = search rules
