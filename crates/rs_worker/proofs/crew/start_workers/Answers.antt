-- The handles are those of the first jobs.
use Rattle.std.proofs.Common.{suc, arith, ◌≡◌, ◌∙◌, ap, List, ◌∷◌, length, map, rules}
use Rattle.std.specs.Vec.Iter.{into_iter_items}
use Rattle.rs_worker.specs.Crew.{charge_of, charged}
use Rattle.rs_worker.specs.declared.crew.Job.{Job}
use Rattle.rs_patience.proofs.PlaceLemmas.{next-moves}
use Rattle.rs_worker.proofs.crew.start_workers.Goals as goal

pub returns-in_default-clause-tied : goal.returns-in_default-clause-tied
returns-in_default-clause-tied g c =
    let jobs : into_iter_items c.into_iter-job-iterator.result ≡ c.args.jobs.items = c.into_iter-job-iterator.ensures.into_iter_gives.0 in (
      map (charge_of c.args.errors) (into_iter_items c.loop-job.job-iterator),
      c.loop-job.invariant.tied
          ∙ ap (λ (jobs : List (Job g.row.S.Denot)). map (charge_of c.args.errors) jobs) jobs,
    )

pub loop-job-preserved : goal.loop-job-preserved
loop-job-preserved g c =
    let steps : into_iter_items c.loop-job.job-iterator ≡ c.in-Some.job ∷ into_iter_items c.next.new.self = c.in-Some.ensures.steps.0 in
    let ready = rw steps at c.loop-job.invariant.ready in record {
      tied =
          rw c.push_reserved.ensures.items (next-moves (λ handle. charged handle.promise) (charge_of c.args.errors)
          c.loop-job.handles.items c.in-Some-start_worker.handle (into_iter_items c.loop-job.job-iterator)
          (into_iter_items c.next.new.self) c.in-Some.job
          (map (charge_of c.args.errors) (into_iter_items c.into_iter-job-iterator.result))
          c.in-Some-start_worker.ensures steps c.loop-job.invariant.tied);
      ready = λ k d within. ready (suc k) d (omega (arith, within));
      counted = omega (arith, c.in-Some.ensures.steps.1);
      left = omega (arith, c.in-Some.ensures.steps.1, ap length steps);
      room = omega arith;
    }

pub loop-job-init : goal.loop-job-init
loop-job-init g c = search rules

pub loop-job-init-derived : goal.loop-job-init-derived
loop-job-init-derived g c = search rules

pub loop-job-preserved-derived : goal.loop-job-preserved-derived
loop-job-preserved-derived g c = search rules

pub loop-job-smaller : goal.loop-job-smaller
loop-job-smaller g c = search rules

pub returns-clause-all : goal.returns-clause-all
returns-clause-all g c = search rules

pub returns-clause-tied : goal.returns-clause-tied
returns-clause-tied g c =
    let jobs : into_iter_items c.into_iter-job-iterator.result ≡ c.args.jobs.items = c.into_iter-job-iterator.ensures.into_iter_gives.0 in (
      map (charge_of c.args.errors) (into_iter_items c.loop-job.job-iterator),
      c.loop-job.invariant.tied
          ∙ ap (λ (jobs : List (Job g.row.S.Denot)). map (charge_of c.args.errors) jobs) jobs,
    )

pub returns-in_default-clause-all : goal.returns-in_default-clause-all
returns-in_default-clause-all g c = search rules
