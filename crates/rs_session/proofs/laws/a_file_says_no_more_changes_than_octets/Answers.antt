use Rattle.rs_session.proofs.LawLemmas.{length-changes_in}
use Rattle.rs_session.proofs.laws.a_file_says_no_more_changes_than_octets.Goals as goal

pub returns : goal.returns
returns c = length-changes_in
