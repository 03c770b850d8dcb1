-- A message that is longer than any is at fault by its front already.
use Rattle.rs_session.proofs.FrontLemmas.{front_suffices}
use Rattle.rs_session.proofs.laws.the_front_of_a_record_suffices.Goals as goal

pub returns : goal.returns
returns c = front_suffices c.front_of_a_record_says_the_same.ensures.same
