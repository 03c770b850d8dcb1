use Rattle.rs_choice.proofs.decision.LawLemmas.{choice_ignores_order}
use Rattle.rs_choice.proofs.laws.the_choice_ignores_order.Goals as goal

pub returns : goal.returns
returns c = choice_ignores_order
