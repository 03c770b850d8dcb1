-- What is served is of changes that sessions over the sources may tell.
use Rattle.rs_run.specs.Recorded.{SourceFailsAt}
use Rattle.rs_serve.specs.Served.{IsServedOver}
use Rattle.rs_run.proofs.RefusalLemmas.{is-read-refusal, is-read-stop, limits-within}
use Rattle.rs_run.proofs.runner.serve_recordings.Goals as goal

pub returns-in-Ok-clause-served : goal.returns-in-Ok-clause-served
returns-in-Ok-clause-served g c = c.in-Ok.ensures.answer.1

pub fault_of-requires : goal.fault_of-requires
fault_of-requires g c =
    let options = c.args.options.now in
    let S = g.S.Source in
    is-read-refusal (IsServedOver S.comes S.shows options.errors c.args.plan.now.value c.args.sources.items)
    (SourceFailsAt S.comes S.shows options.errors c.args.plan.now.value c.args.sources.items) c.args.plan.now.value
    options.ring options.shards c.in-Err.refused
    (limits-within options.ring options.shards c.requires.ring.0 c.requires.ring.1 c.requires.shards.0 c.requires.shards.1)
    c.in-Err.ensures.answer

pub returns-in-Err-clause-fault : goal.returns-in-Err-clause-fault
returns-in-Err-clause-fault g c =
    let options = c.args.options.now in
    let S = g.S.Source in
    is-read-stop (IsServedOver S.comes S.shows options.errors c.args.plan.now.value c.args.sources.items)
    (SourceFailsAt S.comes S.shows options.errors c.args.plan.now.value c.args.sources.items) c.args.plan.now.value
    options.ring options.shards c.in-Err.refused
    c.fault_of.result c.fault_of.ensures c.in-Err.ensures.answer
