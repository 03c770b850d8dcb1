-- All was routed, and all threads are joined.
use Rattle.std.proofs.Common.{◌≡◌, ◌∙◌, sym, ap, subst, List, length, map, arith}
use Rattle.std.proofs.lemmas.List.{length-map, take_at}
use Rattle.rs_ring.specs.Ends.{Receiving, Sending}
use Rattle.rs_router.specs.Delivery.{sent_lists}
use Rattle.rs_router.specs.declared.routed.Routed.{Routed}
use Rattle.rs_change.specs.declared.word.Word.{Word}
use Rattle.rs_serve.specs.Crew as of_shards
use Rattle.rs_serve.specs.Crew.{AllHold}
use Rattle.rs_worker.specs.Crew.{charged}
use Rattle.rs_patience.proofs.PlaceLemmas.{same-counted}
use Rattle.rs_serve.proofs.serving.RunLemmas.{has-run}
use Rattle.rs_serve.proofs.crew.join_all.Goals as goal

pub join_workers-requires-clause-rings : goal.join_workers-requires-clause-rings
join_workers-requires-clause-rings g c =
    let received : length c.route.new.from ≡ length c.deref_mut.result.now =
    same-counted (λ (r : Receiving Word). r.ring) (λ (r : Receiving Word). r.ring)
    c.route.new.from c.deref_mut.result.now c.route.ensures.receivers in
    let back : c.deref_mut-3.result.now ≡ c.route.new.from =
    c.deref_mut-3.ensures.value ∙ take_at c.route.new.from _ c.args.from.len
    (omega (arith, received, ap length c.deref_mut.ensures.value, c.args.from.ok.0)) in
    c.requires.worker_rings
    ∙ sym (ap (map (λ (r : Receiving Word). r.ring)) back ∙ c.route.ensures.receivers
    ∙ ap (map (λ (r : Receiving Word). r.ring)) c.deref_mut.ensures.value)

pub join_shards-whole-requires-clause-rings : goal.join_shards-whole-requires-clause-rings
join_shards-whole-requires-clause-rings g c =
    let sent : length c.route.new.to ≡ length c.deref_mut-2.result.now =
    same-counted (λ (s : Sending Routed). s.ring) (λ (s : Sending Routed). s.ring)
    c.route.new.to c.deref_mut-2.result.now c.route.ensures.senders in
    let back : c.deref_mut-4.result.now ≡ c.route.new.to =
    c.deref_mut-4.ensures.value ∙ take_at c.route.new.to _ c.args.to.len
    (omega (arith, sent, ap length c.deref_mut-2.ensures.value, c.args.to.ok.0)) in
    c.requires.shard_rings
    ∙ sym (ap (map (λ (s : Sending Routed). s.ring)) back ∙ c.route.ensures.senders
    ∙ ap (map (λ (s : Sending Routed). s.ring)) c.deref_mut-2.ensures.value)

pub returns : goal.returns
returns g c =
    let received : length c.route.new.from ≡ length c.deref_mut.result.now =
    same-counted (λ (r : Receiving Word). r.ring) (λ (r : Receiving Word). r.ring)
    c.route.new.from c.deref_mut.result.now c.route.ensures.receivers in
    let of_workers : length c.args.room.workers.items ≡ length c.args.from.items =
    same-counted (λ handle. (charged handle.promise).ring) (λ (r : Receiving Word). r.ring)
    c.args.room.workers.items c.args.from.items c.requires.worker_rings in
    let sent : length c.route.new.to ≡ length c.deref_mut-2.result.now =
    same-counted (λ (s : Sending Routed). s.ring) (λ (s : Sending Routed). s.ring)
    c.route.new.to c.deref_mut-2.result.now c.route.ensures.senders in
    let of_shards' : length c.args.room.shards.items ≡ length c.args.to.items =
    same-counted (λ handle. (of_shards.charged handle.promise).ring) (λ (s : Sending Routed). s.ring)
    c.args.room.shards.items c.args.to.items c.requires.shard_rings in
    let back : c.deref_mut-3.result.now ≡ c.route.new.from =
    c.deref_mut-3.ensures.value ∙ take_at c.route.new.from _ c.args.from.len
    (omega (arith, received, ap length c.deref_mut.ensures.value, c.args.from.ok.0)) in
    let back_to : c.deref_mut-4.result.now ≡ c.route.new.to =
    c.deref_mut-4.ensures.value ∙ take_at c.route.new.to _ c.args.to.len
    (omega (arith, sent, ap length c.deref_mut-2.ensures.value, c.args.to.ok.0)) in
    let joined : length c.join_workers.new.ends.items ≡ length c.args.room.workers.items =
    omega (arith, c.join_workers.ensures.count, c.join_workers.new.ends.ok.0, c.args.room.workers.ok.0) in
    let Holds : List (Sending Routed) → Type 0 =
    λ senders. AllHold (map (λ handle. of_shards.charged handle.promise) c.args.room.shards.items) (sent_lists senders)
    c.join_shards-whole.new.parts.items in
    has-run g.S.Source.comes g.S.Source.shows (map (λ handle. charged handle.promise) c.args.room.workers.items)
    (map (λ handle. of_shards.charged handle.promise) c.args.room.shards.items) c.route.new.from c.join_workers.new.from
    (sent_lists c.route.new.to)
    c.join_workers.new.ends.items c.join_shards-whole.new.parts.items c.join_shards-whole.result
    c.route.ensures.closed c.route.ensures.shard_parts
    (c.join_workers.ensures.same.1 ∙ ap (map (λ (r : Receiving Word). r.received)) back)
    (received ∙ ap length c.deref_mut.ensures.value ∙ sym of_workers
    ∙ sym (length-map c.args.room.workers.items (λ handle. charged handle.promise)))
    (length-map c.route.new.to (λ (s : Sending Routed). s.sent) ∙ sent ∙ ap length c.deref_mut-2.ensures.value ∙ sym of_shards'
    ∙ sym (length-map c.args.room.shards.items (λ handle. of_shards.charged handle.promise)))
    (joined ∙ sym (length-map c.args.room.workers.items (λ handle. charged handle.promise)))
    c.join_workers.ensures.joined
    (λ is. subst Holds back_to (c.join_shards-whole.ensures.parts is))
