use Rattle.rs_setup.proofs.SetupUnique.{begins_once, setup_once}
use Rattle.rs_setup.proofs.laws.a_configuration_sets_up_one_exchange.Goals as goal

pub returns-clause-exchange : goal.returns-clause-exchange
returns-clause-exchange c = setup_once

pub returns-clause-begins : goal.returns-clause-begins
returns-clause-begins c = begins_once
