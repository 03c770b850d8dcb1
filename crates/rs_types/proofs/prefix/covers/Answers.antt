-- Each answer is one search, so that a wrong body is refused soon.
use Rattle.std.proofs.Common.{rules}
use Rattle.rs_types.proofs.prefix.covers.Goals as goal

pub returns : goal.returns
returns c = search rules

pub returns-then-prefix-wide : goal.returns-then-prefix-wide
returns-then-prefix-wide c = search rules
