-- The charges of the workers that run, and of the jobs that are left, are those of all jobs.
use Rattle.std.proofs.Common.{◌≡◌, ◌+◌, ◌≤◌, ◌^◌, [], ◌++◌, length, map}
use Rattle.std.specs.Prelude.{All, vec_len, vec_capacity}
use Rattle.std.specs.Vec.Iter.{into_iter_items, into_iter_len}
use Rattle.rs_worker.specs.Crew.{charge_of, charged}
use Rattle.rs_worker.proofs.crew.start_workers.Given as goal

abbrev pub invariant-loop-job : goal.invariant-loop-job
invariant-loop-job g l = record {
  tied : map (λ handle. charged handle.promise) l.handles.items ++ map (charge_of l.errors) (into_iter_items l.job-iterator)
      ≡ map (charge_of l.errors) (into_iter_items l.initial.job-iterator);
  ready : All (λ job. (job.out.sent ≡ []) × (g.S.Source.room job.source ≤ 2 ^ 50)) (into_iter_items l.job-iterator);
  counted : vec_len l.handles + into_iter_len l.job-iterator ≡ into_iter_len l.initial.job-iterator;
  left : into_iter_len l.job-iterator ≡ length (into_iter_items l.job-iterator);
  room : into_iter_len l.initial.job-iterator ≤ vec_capacity l.handles;
}
