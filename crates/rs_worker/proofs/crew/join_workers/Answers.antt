-- Each worker that is joined tells what its peer's receiver received.
use Rattle.std.proofs.Common.{◌≡◌, ◌∙◌, sym, refl, arith, length, length-append, [], ◌∷◌, rules}
use Rattle.std.specs.Vec.Iter.{into_iter_items}
use Rattle.rs_ring.specs.Ends.{Receiving}
use Rattle.rs_change.specs.declared.word.Word.{Word}
use Rattle.rs_worker.specs.Crew.{charged}
use Rattle.rs_worker.proofs.CrewLemmas.{joined-next}
use Rattle.rs_patience.proofs.PlaceLemmas.{drop-front, drop-later, get-map, map-set_same, next-made}
use Rattle.rs_worker.proofs.crew.join_workers.Goals as goal

pub loop-handle-init : goal.loop-handle-init
loop-handle-init g c = record {
  rest = rw c.requires.empty c.into_iter-handle-iterator.ensures.into_iter_gives.0;
  joined = rw c.requires.empty (λ peer charge receiver end at_charge at_receiver at_end. absurd cc);
  rings = refl;
  received = refl;
  left = search rules;
  counted = search rules;
  room = search rules;
}

pub join_worker-requires : goal.join_worker-requires
join_worker-requires g c =
    let at : length c.loop-handle.ends.items ≡ c.len-peer.result = omega (arith, c.len-peer.ensures, c.loop-handle.ends.ok.0) in
    let left = rw at at (sym c.loop-handle.invariant.rest ∙ c.in-Some.ensures.steps.0) in
    (next-made (λ handle. (charged handle.promise).ring) (λ receiver. receiver.ring) c.args.handles.items c.loop-handle.from
    (c.requires.rings ∙ sym c.loop-handle.invariant.rings) c.len-peer.result c.in-Some.handle (into_iter_items c.next.new.self)
    c.index-from-peer.result left).1

pub loop-handle-preserved : goal.loop-handle-preserved
loop-handle-preserved g c =
    let r = c.loop-handle.invariant in
    let at : length c.loop-handle.ends.items ≡ c.len-peer.result = omega (arith, c.len-peer.ensures, c.loop-handle.ends.ok.0) in
    let left = sym r.rest ∙ c.in-Some.ensures.steps.0 in
    let charge = get-map (λ handle. charged handle.promise) c.args.handles.items (length c.loop-handle.ends.items) c.in-Some.handle
    (drop-front c.args.handles.items (length c.loop-handle.ends.items) c.in-Some.handle (into_iter_items c.next.new.self) left) in
    let here = (next-made (λ handle. (charged handle.promise).ring) (λ receiver. receiver.ring) c.args.handles.items c.loop-handle.from
    (c.requires.rings ∙ sym r.rings) c.len-peer.result c.in-Some.handle (into_iter_items c.next.new.self) c.index-from-peer.result
    (rw at at left)).0 in
    record {
      rest = rw (c.push_reserved.ensures.items, length-append c.loop-handle.ends.items (c.join_worker.result ∷ []))
          (sym (drop-later c.args.handles.items (length c.loop-handle.ends.items) c.in-Some.handle (into_iter_items c.next.new.self) left));
      joined = rw (c.push_reserved.ensures.items, ← at) (joined-next g.S.Source.comes g.S.Source.shows _ c.loop-handle.from
          c.loop-handle.ends.items (charged c.in-Some.handle.promise)
          c.join_worker.new.from c.join_worker.result r.joined charge c.join_worker.ensures.joined);
      rings = map-set_same (λ (receiver : Receiving Word). receiver.ring)
          c.loop-handle.from c.len-peer.result _ c.join_worker.new.from here c.join_worker.ensures.same.0 ∙ r.rings;
      received = map-set_same (λ (receiver : Receiving Word). receiver.received)
          c.loop-handle.from c.len-peer.result _ c.join_worker.new.from here c.join_worker.ensures.same.1 ∙ r.received;
      left = search rules;
      counted = search rules;
      room = search rules;
    }
