use Rattle.rs_choice.proofs.decision.LawLemmas.{choice_is_member, choice_is_unbeaten}
use Rattle.rs_choice.proofs.laws.the_choice_is_unbeaten.Goals as goal

pub returns-clause-member : goal.returns-clause-member
returns-clause-member c = choice_is_member

pub returns-clause-unbeaten : goal.returns-clause-unbeaten
returns-clause-unbeaten c = choice_is_unbeaten
