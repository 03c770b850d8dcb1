use Rattle.rs_explain.proofs.RivalLemmas.{rival_is_candidate}
use Rattle.rs_explain.proofs.laws.the_rival_is_a_candidate.Goals as goal

pub returns : goal.returns
returns c = rival_is_candidate
