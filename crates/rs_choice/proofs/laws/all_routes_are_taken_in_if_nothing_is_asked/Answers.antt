use Rattle.rs_choice.proofs.CandidateLemmas.{nothing-asked}
use Rattle.rs_choice.proofs.laws.all_routes_are_taken_in_if_nothing_is_asked.Goals as goal

pub returns : goal.returns
returns c = nothing-asked
