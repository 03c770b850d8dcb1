-- The answer is one search, so that a wrong body is refused soon.
use Rattle.std.proofs.Common.{rules}
use Rattle.rs_host.proofs.refusal.setup_text.Goals as goal

pub returns-in-Missing : goal.returns-in-Missing
returns-in-Missing c = search rules
