use Rattle.rs_choice.proofs.decision.LawLemmas.{med_decides}
use Rattle.rs_choice.proofs.laws.med_decides_within_a_neighbour_as.Goals as goal

pub returns : goal.returns
returns c = med_decides
