use Rattle.std.proofs.lemmas.Result.{IfOk-weaker}
use Rattle.rs_survey.specs.Summary.{findings_of}
use Rattle.rs_survey.proofs.on_threads.summary_on_threads.Goals as goal

pub returns-clause-counts : goal.returns-clause-counts
unfolding findings_of
returns-clause-counts g c =
    IfOk-weaker c.count_on_threads.result _ _ (λ tally counts. counts.counts) c.count_on_threads.ensures
