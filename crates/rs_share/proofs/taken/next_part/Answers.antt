use Rattle.std.proofs.Common.{rules}
use Rattle.rs_share.proofs.taken.next_part.Goals as goal

pub returns-in-Ok-clause-some : goal.returns-in-Ok-clause-some
returns-in-Ok-clause-some g c = search rules
