use Rattle.rs_losses.proofs.LawLemmas.{shown-law}
use Rattle.rs_losses.proofs.laws.what_a_source_with_losses_shows.Goals as goal

pub returns : goal.returns
returns c = shown-law
