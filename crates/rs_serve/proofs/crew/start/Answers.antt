-- All were started, or none of the workers was.
use Rattle.std.proofs.Common.{◌++◌, map, ap, rules}
use Rattle.rs_worker.specs.Crew.{charge_of, charged}
use Rattle.rs_serve.proofs.crew.start.Goals as goal

pub returns-then-not-start_shards-clause-workers : goal.returns-then-not-start_shards-clause-workers
returns-then-not-start_shards-clause-workers g c = (
  map (charge_of c.args.errors) c.args.jobs.items,
  ap (λ handles. map (λ handle. charged handle.promise) handles
      ++ map (charge_of c.args.errors) c.args.jobs.items) c.requires.no_handles.0,
)

pub returns-clause-all : goal.returns-clause-all
returns-clause-all g c = λ is. (c.start_workers.ensures.all is, c.if-not-start_shards.ensures.all (search rules))
