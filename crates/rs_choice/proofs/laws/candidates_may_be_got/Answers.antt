use Rattle.rs_choice.proofs.CandidateLemmas.{candidates-got}
use Rattle.rs_choice.proofs.laws.candidates_may_be_got.Goals as goal

pub returns : goal.returns
returns c = candidates-got
