use Rattle.std.proofs.Common.{◌≡◌, ◌+◌, ◌≤◌, ◌++◌, All, map, length, vec_len, vec_capacity}
use Rattle.std.specs.Vec.Iter.{into_iter_items, into_iter_len}
use Rattle.rs_serve.specs.Crew.{charge_of, charged, IsReady}
use Rattle.rs_serve.proofs.shard_crew.start_shards.Given as goal

-- the handles so far are those of the first jobs, and the other jobs are still to come
abbrev pub invariant-loop-job : goal.invariant-loop-job
invariant-loop-job g l = record {
  tied : map (λ handle. charged handle.promise) l.handles.items ++ map charge_of (into_iter_items l.job-iterator)
      ≡ map charge_of l.fn.jobs.items;
  ready : All IsReady (into_iter_items l.job-iterator);
  count : into_iter_len l.job-iterator ≡ length (into_iter_items l.job-iterator);
  all : vec_len l.handles + into_iter_len l.job-iterator ≡ vec_len l.fn.jobs;
  room : vec_len l.handles + into_iter_len l.job-iterator ≤ vec_capacity l.handles;
}
