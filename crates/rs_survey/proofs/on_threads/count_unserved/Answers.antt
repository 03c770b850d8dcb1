use Rattle.std.proofs.lemmas.Result.{IfOk-weaker}
use Rattle.rs_survey.specs.MissingCounts.{unserved_findings}
use Rattle.rs_survey.proofs.on_threads.count_unserved.Goals as goal

pub returns-clause-counts : goal.returns-clause-counts
unfolding unserved_findings
returns-clause-counts g c =
    IfOk-weaker c.count_on_threads.result _ _ (λ tally counts. counts.counts) c.count_on_threads.ensures
