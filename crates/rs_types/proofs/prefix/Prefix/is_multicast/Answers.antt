-- Each answer is one search, so that a wrong body is refused soon.
use Rattle.std.proofs.Common.{rules}
use Rattle.rs_types.proofs.prefix.Prefix.is_multicast.Goals as goal

pub returns-then-self-ge4 : goal.returns-then-self-ge4
returns-then-self-ge4 c = search rules

pub returns-else-self-ge4 : goal.returns-else-self-ge4
returns-else-self-ge4 c = search rules
