use Rattle.rs_losses.proofs.LawLemmas.{loss-law}
use Rattle.rs_losses.proofs.laws.a_loss_that_is_put_in_says_just_a_loss.Goals as goal

pub returns : goal.returns
returns c = loss-law
