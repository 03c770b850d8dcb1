use Rattle.rs_start.proofs.EntryLemmas.{entry_is_read}
use Rattle.rs_start.proofs.laws.an_entry_of_a_table_is_read_as_it_is_spelled.Goals as goal

pub returns : goal.returns
returns c = entry_is_read
