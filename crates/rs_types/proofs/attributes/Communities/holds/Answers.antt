-- Each answer is one search, so that a wrong body is refused soon.
use Rattle.std.proofs.Common.{rules}
use Rattle.rs_types.proofs.attributes.Communities.holds.Goals as goal

pub returns-else-low-lt-HALF : goal.returns-else-low-lt-HALF
returns-else-low-lt-HALF c = search rules

pub returns-then-low-lt-HALF : goal.returns-then-low-lt-HALF
returns-then-low-lt-HALF c = search rules
