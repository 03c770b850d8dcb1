-- Each record is shown by its front, which says what the record says.
use Rattle.rs_session.proofs.FrontLemmas.{front_suffices}
use Rattle.rs_session.proofs.GivenLemmas.{gives_file_or_fails}
use Rattle.rs_session.proofs.laws.a_reader_gives_a_file_or_fails.Goals as goal

pub returns : goal.returns
returns g c = λ reader. gives_file_or_fails g.R.Read.gives reader (front_suffices c.front_of_a_record_says_the_same.ensures.same)
