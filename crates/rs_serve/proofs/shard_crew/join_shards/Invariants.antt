use Rattle.std.proofs.Common.{◌≡◌, ◌+◌, ◌≤◌, true, map, drop, length, vec_len, vec_capacity}
use Rattle.std.specs.Vec.Iter.{into_iter_items, into_iter_len}
use Rattle.rs_router.specs.Delivery.{sent_lists}
use Rattle.rs_serve.specs.Crew.{charged}
use Rattle.rs_serve.proofs.CrewLemmas.{HoldSoFar}
use Rattle.rs_serve.proofs.shard_crew.join_shards.Given as goal

-- the first shards were joined: while each one has its tables, these are the parts so far, and the other handles are still to come
abbrev pub invariant-loop-handle : goal.invariant-loop-handle
invariant-loop-handle g l = record {
  rest : into_iter_items l.handle-iterator ≡ drop l.shard l.fn.handles.items;
  count : into_iter_len l.handle-iterator ≡ length (into_iter_items l.handle-iterator);
  all : l.shard + into_iter_len l.handle-iterator ≡ length l.fn.handles.items;
  room : vec_len l.parts + into_iter_len l.handle-iterator ≤ vec_capacity l.parts;
  rings : map (λ sender. sender.ring) l.to ≡ map (λ sender. sender.ring) l.fn.to;
  sent : sent_lists l.to ≡ sent_lists l.fn.to;
  parts : l.complete ≡ true → HoldSoFar l.shard (map (λ handle. charged handle.promise) l.fn.handles.items) (sent_lists l.fn.to)
      l.parts.items;
}
