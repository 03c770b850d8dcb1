use Rattle.rs_dump.proofs.LawLemmas.{prefix_is_spelled}
use Rattle.rs_dump.proofs.laws.prefix_in_a_dump_is_spelled.Goals as goal

pub returns : goal.returns
returns c = prefix_is_spelled
