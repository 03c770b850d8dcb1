-- The first workers were joined, and each told what its receiver received; the other handles are still to come.
use Rattle.std.proofs.Common.{◌≡◌, ◌+◌, ◌≤◌, drop, length, map}
use Rattle.std.specs.Prelude.{vec_len, vec_capacity}
use Rattle.std.specs.Vec.Iter.{into_iter_items, into_iter_len}
use Rattle.rs_worker.specs.Crew.{charged, AllJoined}
use Rattle.rs_worker.proofs.crew.join_workers.Given as goal

abbrev pub invariant-loop-handle : goal.invariant-loop-handle
invariant-loop-handle g l = record {
  rest : into_iter_items l.handle-iterator ≡ drop (length l.ends.items) l.fn.handles.items;
  joined : AllJoined g.S.Source.comes g.S.Source.shows (map (λ handle. charged handle.promise) l.fn.handles.items) l.from l.ends.items;
  rings : map (λ receiver. receiver.ring) l.from ≡ map (λ receiver. receiver.ring) l.fn.from;
  received : map (λ receiver. receiver.received) l.from ≡ map (λ receiver. receiver.received) l.fn.from;
  left : into_iter_len l.handle-iterator ≡ length (into_iter_items l.handle-iterator);
  counted : vec_len l.ends + into_iter_len l.handle-iterator ≡ vec_len l.fn.handles;
  room : vec_len l.fn.handles ≤ vec_capacity l.ends;
}
