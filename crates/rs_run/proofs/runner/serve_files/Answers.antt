-- What is served is of files that the readers may give.
use Rattle.rs_run.proofs.EndLemmas.{served-files}
use Rattle.rs_run.proofs.RefusalLemmas.{is-read-refusal, is-read-stop, limits-within}
use Rattle.rs_run.specs.Recorded.{FailsAt}
use Rattle.rs_serve.specs.Served.{IsServedBy}
use Rattle.rs_run.proofs.runner.serve_files.Goals as goal

pub returns-in-Ok-clause-served : goal.returns-in-Ok-clause-served
returns-in-Ok-clause-served g c =
    served-files g.R.Read.gives c.args.options.now.errors c.args.plan.now.value c.args.readers.items c.in-Ok.served
    c.a_session_closes_once.ensures c.requires.one_for_each c.in-Ok.ensures.answer.1

pub fault_of-requires : goal.fault_of-requires
fault_of-requires g c =
    let options = c.args.options.now in
    is-read-refusal (IsServedBy g.R.Read.gives options.errors c.args.plan.now.value c.args.readers.items)
    (FailsAt g.R.Read.gives options.errors c.args.plan.now.value c.args.readers.items) c.args.plan.now.value
    options.ring options.shards c.in-Err.refused
    (limits-within options.ring options.shards c.requires.ring.0 c.requires.ring.1 c.requires.shards.0 c.requires.shards.1)
    c.in-Err.ensures.answer

pub returns-in-Err-clause-fault : goal.returns-in-Err-clause-fault
returns-in-Err-clause-fault g c =
    let options = c.args.options.now in
    is-read-stop (IsServedBy g.R.Read.gives options.errors c.args.plan.now.value c.args.readers.items)
    (FailsAt g.R.Read.gives options.errors c.args.plan.now.value c.args.readers.items) c.args.plan.now.value
    options.ring options.shards c.in-Err.refused
    c.fault_of.result c.fault_of.ensures c.in-Err.ensures.answer
