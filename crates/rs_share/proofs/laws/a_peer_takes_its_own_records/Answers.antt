use Rattle.rs_share.proofs.SharingLemmas.{comes-of}
use Rattle.rs_share.proofs.laws.a_peer_takes_its_own_records.Goals as goal

pub returns : goal.returns
returns g c = comes-of g.S.Source.comes g.met.S.Source.may_come
