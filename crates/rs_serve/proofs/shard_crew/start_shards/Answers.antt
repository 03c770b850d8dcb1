-- One more shard was started.
use Rattle.std.proofs.Common.{map, rules}
use Rattle.std.proofs.lemmas.List.Elements.{All-tail}
use Rattle.std.specs.Vec.Iter.{into_iter_items}
use Rattle.rs_serve.specs.Crew.{charge_of, charged, IsReady}
use Rattle.rs_patience.proofs.PlaceLemmas.{next-moves}
use Rattle.rs_serve.proofs.shard_crew.start_shards.Goals as goal

pub loop-job-preserved : goal.loop-job-preserved
loop-job-preserved g c =
    let steps = c.in-Some.ensures.steps.0 in
    record {
      tied = rw c.push_reserved.ensures.items (next-moves (λ handle. charged handle.promise)
          charge_of c.loop-job.handles.items c.in-Some-start_shard.handle (into_iter_items c.loop-job.job-iterator)
          (into_iter_items c.next.new.self) c.in-Some.job (map charge_of c.args.jobs.items)
          c.in-Some-start_shard.ensures steps c.loop-job.invariant.tied);
      ready = All-tail IsReady c.in-Some.job (into_iter_items c.next.new.self) (rw steps at c.loop-job.invariant.ready);
      count = search rules;
      all = search rules;
      room = search rules;
    }

pub loop-job-init : goal.loop-job-init
loop-job-init g c = search rules

pub loop-job-init-derived : goal.loop-job-init-derived
loop-job-init-derived g c = search rules

pub loop-job-preserved-derived : goal.loop-job-preserved-derived
loop-job-preserved-derived g c = search rules

pub loop-job-smaller : goal.loop-job-smaller
loop-job-smaller g c = search rules

pub returns-clause-all : goal.returns-clause-all
returns-clause-all g c = search rules

pub returns-clause-tied : goal.returns-clause-tied
returns-clause-tied g c = search rules

pub returns-in_default-clause-all : goal.returns-in_default-clause-all
returns-in_default-clause-all g c = search rules

pub returns-in_default-clause-tied : goal.returns-in_default-clause-tied
returns-in_default-clause-tied g c = search rules
