use Rattle.rs_choice.proofs.plan.PolicyLaws.{uncounted_are_no_matter}
use Rattle.rs_choice.proofs.laws.uncounted_large_communities_are_no_matter.Goals as goal

pub returns : goal.returns
returns c = uncounted_are_no_matter
