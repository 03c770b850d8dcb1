use Rattle.rs_setup.proofs.FilesLemmas.{one_for_each}
use Rattle.rs_setup.proofs.laws.a_configuration_has_a_file_for_each_peer.Goals as goal

pub returns : goal.returns
returns c = one_for_each
