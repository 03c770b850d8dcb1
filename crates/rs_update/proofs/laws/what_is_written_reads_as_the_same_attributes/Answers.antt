use Rattle.rs_update.proofs.spelling.AgainLemmas.{written_is_read}
use Rattle.rs_update.proofs.laws.what_is_written_reads_as_the_same_attributes.Goals as goal

pub returns : goal.returns
returns c = written_is_read
