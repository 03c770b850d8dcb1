use Rattle.rs_share.proofs.OwnLemmas.{own-says}
use Rattle.rs_share.proofs.laws.own_records_say_the_same.Goals as goal

pub returns : goal.returns
returns c = own-says
