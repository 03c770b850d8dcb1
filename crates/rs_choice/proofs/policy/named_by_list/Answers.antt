-- Each answer is one search, so that a wrong body is refused soon.
use Rattle.std.proofs.Common.{rules}
use Rattle.rs_choice.proofs.policy.named_by_list.Goals as goal

pub loop-value-preserved-then-refuses_all : goal.loop-value-preserved-then-refuses_all
loop-value-preserved-then-refuses_all c = search rules

pub loop-value-preserved : goal.loop-value-preserved
loop-value-preserved c = search rules
