use Rattle.rs_choice.proofs.plan.PolicyLaws.{policy_ignores_order}
use Rattle.rs_choice.proofs.laws.policy_ignores_the_order_of_communities.Goals as goal

pub returns : goal.returns
returns c = policy_ignores_order
