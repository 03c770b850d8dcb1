use Rattle.rs_share.proofs.OwnLemmas.{hears-the-same}
use Rattle.rs_share.proofs.laws.a_peer_hears_all_that_its_session_says.Goals as goal

pub returns : goal.returns
returns c = hears-the-same
