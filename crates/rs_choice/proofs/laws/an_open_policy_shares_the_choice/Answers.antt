use Rattle.rs_choice.proofs.decision.LawLemmas.{open_policy}
use Rattle.rs_choice.proofs.laws.an_open_policy_shares_the_choice.Goals as goal

pub returns : goal.returns
returns c = open_policy
