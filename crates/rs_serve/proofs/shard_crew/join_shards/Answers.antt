-- One more shard was joined.
use Rattle.std.proofs.Common.{◌≡◌, ◌∙◌, sym, arith, List, map, get_or, Some, rules}
use Rattle.std.specs.Prelude.{slice_get}
use Rattle.std.specs.Vec.Iter.{into_iter_items}
use Rattle.std.proofs.lemmas.List.{length-map}
use Rattle.rs_ring.specs.Ends.{Sending}
use Rattle.rs_router.specs.Delivery.{sent_lists}
use Rattle.rs_router.specs.declared.routed.Routed.{Routed}
use Rattle.rs_serve.specs.Crew.{Charge, charged}
use Rattle.rs_serve.specs.Held.{HoldReceived}
use Rattle.rs_serve.proofs.CrewLemmas.{HoldSoFar, all-hold, hold-more}
use Rattle.rs_patience.proofs.PlaceLemmas.{drop-front, drop-later, get-map, map-set_same, next-made}
use Rattle.rs_serve.proofs.shard_crew.join_shards.Goals.{in-Some-join_shard, in-None-join_shard}
use Rattle.rs_serve.proofs.shard_crew.join_shards.Goals as goal

pub join_shard-requires : goal.join_shard-requires
join_shard-requires g c =
    (next-made (λ handle. (charged handle.promise).ring) (λ sender. sender.ring) c.args.handles.items c.loop-handle.to
    (c.requires.rings ∙ sym c.loop-handle.invariant.rings) c.loop-handle.shard c.in-Some.handle (into_iter_items c.next.new.self)
    c.index-to-shard.result (sym c.loop-handle.invariant.rest ∙ c.in-Some.ensures.steps.0)).1

pub loop-handle-preserved : goal.loop-handle-preserved
loop-handle-preserved g c =
    let r = c.loop-handle.invariant in
    let handles = c.args.handles.items in
    let to = c.loop-handle.to in
    let shard = c.loop-handle.shard in
    let left = sym r.rest ∙ c.in-Some.ensures.steps.0 in
    let sender : Sending Routed = get_or to shard c.index-to-shard.result in
    let here = (next-made (λ handle. (charged handle.promise).ring) (λ sender. sender.ring) handles to (c.requires.rings ∙ sym r.rings)
    shard c.in-Some.handle (into_iter_items c.next.new.self) c.index-to-shard.result left).0 in
    let charges : List Charge = map (λ handle. charged handle.promise) handles in
    let sent = sent_lists c.args.to.now in
    let at_charge : slice_get charges shard ≡ Some (charged c.in-Some.handle.promise) =
    get-map (λ handle. charged handle.promise) handles shard c.in-Some.handle
    (drop-front handles shard c.in-Some.handle (into_iter_items c.next.new.self) left) in
    let at_sent : slice_get sent shard ≡ Some sender.sent = rw r.sent at (get-map (λ (s : Sending Routed). s.sent) to shard sender here) in
    record {
      rest = sym (drop-later handles shard c.in-Some.handle (into_iter_items c.next.new.self) left);
      count = search rules;
      all = search rules;
      room = elim c.match-join_shard.branch [
        | in-Some-join_shard w ↦ rw w.parts-is (omega (
          arith,
          c.in-Some.ensures.steps.1,
          w.push_reserved.ensures.len,
          w.push_reserved.ensures.capacity,
          r.room,
        ))
        | in-None-join_shard w ↦ rw w.parts-is (omega (arith, c.in-Some.ensures.steps.1, r.room))
      ];
      rings = map-set_same (λ (s : Sending Routed). s.ring) to shard sender c.join_shard.new.to here c.join_shard.ensures.same.0 ∙ r.rings;
      sent = map-set_same (λ (s : Sending Routed). s.sent) to shard sender c.join_shard.new.to here c.join_shard.ensures.same.1 ∙ r.sent;
      parts = elim c.match-join_shard.branch [
        | in-Some-join_shard w ↦ λ complete.
            let held : HoldReceived (charged c.in-Some.handle.promise).tables sender.sent w.in-Some-join_shard.tables =
            rw c.join_shard.ensures.same.1 at w.in-Some-join_shard.ensures.held in
            let before : HoldSoFar shard charges sent c.loop-handle.parts.items = r.parts (sym w.complete-is ∙ complete) in
            rw (w.parts-is, w.push_reserved.ensures.items)
            (hold-more shard charges sent c.loop-handle.parts.items (charged c.in-Some.handle.promise)
            sender.sent w.in-Some-join_shard.tables before at_charge at_sent held)
        | in-None-join_shard w ↦ λ complete. absurd cc
      ];
    }

pub returns-clause-parts : goal.returns-clause-parts
returns-clause-parts g c complete =
    all-hold c.loop-handle.shard (map (λ handle. charged handle.promise) c.args.handles.items) (sent_lists c.args.to.now)
    c.loop-handle.parts.items
    (omega (
      arith,
      c.loop-handle.invariant.all,
      c.in-None.ensures.steps.0,
      length-map c.args.handles.items (λ handle. charged handle.promise),
    )) (c.loop-handle.invariant.parts complete)

pub loop-handle-init : goal.loop-handle-init
loop-handle-init g c = search rules

pub loop-handle-init-derived : goal.loop-handle-init-derived
loop-handle-init-derived g c = search rules

pub loop-handle-preserved-derived : goal.loop-handle-preserved-derived
loop-handle-preserved-derived g c = search rules

pub loop-handle-smaller : goal.loop-handle-smaller
loop-handle-smaller g c = search rules

pub returns-clause-same : goal.returns-clause-same
returns-clause-same g c = search rules

pub returns-clause-sent : goal.returns-clause-sent
returns-clause-sent g c = search rules
