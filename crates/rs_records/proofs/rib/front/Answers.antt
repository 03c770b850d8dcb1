-- Each answer is one search, so that a wrong body is refused soon.
use Rattle.std.proofs.Common.{rules}
use Rattle.rs_records.proofs.rib.front.Goals as goal

pub returns : goal.returns
returns c = search rules
