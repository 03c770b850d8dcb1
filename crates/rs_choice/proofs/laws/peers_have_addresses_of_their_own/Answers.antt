use Rattle.rs_choice.proofs.plan.PlanLaws.{own_addresses}
use Rattle.rs_choice.proofs.laws.peers_have_addresses_of_their_own.Goals as goal

pub returns : goal.returns
returns c = own_addresses
