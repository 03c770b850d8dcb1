use Rattle.rs_session.proofs.LawLemmas.{closes_last}
use Rattle.rs_session.proofs.laws.a_session_closes_once.Goals as goal

pub returns : goal.returns
returns c = closes_last
