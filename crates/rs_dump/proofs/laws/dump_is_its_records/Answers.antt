use Rattle.rs_dump.proofs.LawLemmas as lemmas
use Rattle.rs_dump.proofs.laws.dump_is_its_records.Goals as goal

pub returns : goal.returns
returns c = lemmas.dump_is_its_records
