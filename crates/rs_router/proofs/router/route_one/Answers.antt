-- One change more of a peer.
use Rattle.std.proofs.Common.{◌≡◌, ◌∙◌, sym, ap, subst, arith, List, Some, get_or, ◌++◌, ◌∷◌, []}
use Rattle.std.specs.Prelude.{slice_get, slice_set}
use Rattle.std.proofs.lemmas.List.{length-map, map-set}
use Rattle.std.proofs.lemmas.Option.{slice_get-get_or}
use Rattle.rs_ring.specs.Ends.{Receiving}
use Rattle.rs_change.specs.declared.word.Word.{Word}
use Rattle.rs_router.specs.Delivery.{sent_lists}
use Rattle.rs_router.specs.Routing.{IsRouted, received_lists}
use Rattle.rs_patience.proofs.PlaceLemmas.{get-map, map-set_same}
use Rattle.rs_router.proofs.RoutingLemmas.{as_many, can_send, routed_more}
use Rattle.rs_router.proofs.router.route_one.Goals as goal

pub deliver-requires-clause-open : goal.deliver-requires-clause-open
deliver-requires-clause-open g c =
    can_send (received_lists c.args.from.now) c.args.to.now c.requires.routed
    (omega (arith, c.requires.peers, length-map c.args.from.now (λ (r : Receiving Word). r.received)))

pub returns-clause-routed : goal.returns-clause-routed
returns-clause-routed g c =
    let from : List (Receiving Word) = c.args.from.now in
    let old : Receiving Word = get_or from c.args.peer c.index-from-peer.result in
    let here : slice_get from c.args.peer ≡ Some old = slice_get-get_or from c.args.peer c.index-from-peer.result c.requires.peer in
    let word : Word = c.in-Some.field-0.item in
    let more : IsRouted (slice_set (received_lists from) c.args.peer (old.received ++ word ∷ [])) (sent_lists c.deliver.new.to) =
    routed_more (received_lists from) (sent_lists c.args.to.now) (sent_lists c.deliver.new.to)
    c.args.peer old.received word c.requires.routed
    (get-map (λ (r : Receiving Word). r.received) from c.args.peer old here)
    (omega (arith, c.in-Some.ensures.number, c.in-Some.ensures.below)) c.in-Some.ensures.open c.deliver.ensures.sent
    (as_many c.args.to.now c.deliver.new.to c.deliver.ensures.same) in
    subst (λ (lists : List (List Word)). IsRouted lists (sent_lists c.deliver.new.to))
    (sym (map-set (λ (r : Receiving Word). r.received) from c.args.peer c.try_receive.new.self
    ∙ ap (λ (words : List Word). slice_set (received_lists from) c.args.peer words) c.in-Some.ensures.received)) more

pub returns-clause-receivers : goal.returns-clause-receivers
returns-clause-receivers g c =
    let from : List (Receiving Word) = c.args.from.now in
    map-set_same (λ (r : Receiving Word). r.ring) from c.args.peer (get_or from c.args.peer c.index-from-peer.result) c.try_receive.new.self
    (slice_get-get_or from c.args.peer c.index-from-peer.result c.requires.peer) c.try_receive.ensures.same.0
