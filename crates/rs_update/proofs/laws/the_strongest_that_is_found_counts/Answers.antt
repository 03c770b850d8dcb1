use Rattle.rs_update.proofs.treating.AgreeLemmas.{strongest_counts}
use Rattle.rs_update.proofs.laws.the_strongest_that_is_found_counts.Goals as goal

pub returns : goal.returns
returns c = strongest_counts
