use Rattle.rs_survey.proofs.StepLemmas.{counted_step}
use Rattle.rs_survey.proofs.laws.the_step_that_is_counted_is_explained.Goals as goal

pub returns : goal.returns
returns c = counted_step
