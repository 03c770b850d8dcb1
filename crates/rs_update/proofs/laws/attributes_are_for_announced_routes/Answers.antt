use Rattle.rs_update.proofs.message.MessageLemmas.{attributes_for_routes}
use Rattle.rs_update.proofs.laws.attributes_are_for_announced_routes.Goals as goal

pub returns : goal.returns
returns c = attributes_for_routes
