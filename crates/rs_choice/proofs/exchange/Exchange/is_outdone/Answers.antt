use Rattle.std.proofs.lemmas.Bool.{false≢true}
use Rattle.rs_choice.proofs.exchange.Exchange.is_outdone.Goals as goal

pub returns-in-None : goal.returns-in-None
returns-in-None c = rw c.in-None.is (λ yes. absurd (false≢true yes), λ outdone. absurd outdone)

pub returns-in-Some : goal.returns-in-Some
returns-in-Some c = rw c.in-Some.is c.is_outdone_by.ensures
