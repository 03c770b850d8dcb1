-- Each answer is one search, so that a wrong body is refused soon.
use Rattle.std.proofs.Common.{rules}
use Rattle.rs_router.proofs.routed.RoutedClosing.is_close.Goals as goal

pub returns-in-Last : goal.returns-in-Last
returns-in-Last c = search rules

pub returns-in_default : goal.returns-in_default
returns-in_default c = search rules
