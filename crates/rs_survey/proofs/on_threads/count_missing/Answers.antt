use Rattle.std.proofs.Common.{subst, sym}
use Rattle.std.proofs.lemmas.Result.{IfOk-weaker}
use Rattle.rs_survey.specs.Tally.{IsTally}
use Rattle.rs_survey.proofs.MissingCountLemmas.{missing_on_each}
use Rattle.rs_survey.proofs.on_threads.count_missing.Goals as goal

pub returns-clause-counts : goal.returns-clause-counts
returns-clause-counts g c =
    IfOk-weaker c.count_on_threads.result _ _
    (λ tally counts. subst (IsTally tally) (sym (missing_on_each c.args.tables.now c.args.client c.args.from)) counts.counts)
    c.count_on_threads.ensures
