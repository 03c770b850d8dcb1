-- The answer is one search, so that a wrong body is refused soon.
use Rattle.std.proofs.Common.{rules}
use Rattle.rs_options.proofs.words.fault_of.Goals as goal

pub returns-in_default-kind : goal.returns-in_default-kind
returns-in_default-kind c = search rules
