use Rattle.rs_session.proofs.GivenLemmas.{failed_read_closes}
use Rattle.rs_session.proofs.laws.a_failed_read_closes_last.Goals as goal

pub returns : goal.returns
returns c = failed_read_closes
