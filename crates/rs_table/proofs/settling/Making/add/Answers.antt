-- The route of the change stands behind those of lower peers.
use Rattle.std.proofs.Common.{◌≡◌, ◌≢◌, ◌∙◌, ◌∷◌, [], Some, true, cond, All, length, map, ap, sym, subst, arith, rules}
use Rattle.std.specs.Option.{option_map}
use Rattle.std.specs.declared.cmp.Ordering.TheVariants.{Less}
use Rattle.std.proofs.lemmas.List.{map-append}
use Rattle.std.proofs.lemmas.List.Elements.{All-push}
use Rattle.rs_types.specs.IpPrefix.{IpPrefix}
use Rattle.rs_types.specs.PathAttributes.{PathAttributes}
use Rattle.rs_types.specs.PrefixOrder.{prefix_cmp, same_prefix}
use Rattle.rs_choice.specs.Decision.{SentRoute}
use Rattle.rs_choice.specs.Held.{sent_of_held, AreTakenBy, IsJudged, IsTakenBy}
use Rattle.rs_table.specs.ByPeer.{IsRow, route_at}
use Rattle.rs_table.specs.Gathered.{entry_route, is_of}
use Rattle.rs_table.specs.Left.{RouteLeft}
use Rattle.rs_table.specs.Making.{routes_here}
use Rattle.rs_table.proofs.settling.MakingLemmas.{added, ascends-later, IsRow-behind, peer-later}
use Rattle.rs_table.proofs.settling.Making.add.Goals as goal

pub returns-clause-making : goal.returns-clause-making
returns-clause-making c =
    let plan = c.args.plan.now in
    let making = c.turn_to.new.self in
    let one : SentRoute = sent_of_held c.hold-route.result in
    let peer_is : one.peer ≡ c.args.entry.peer = search rules in
    let row : IsRow 0 one.peer (routes_here making) =
    subst (λ n. IsRow 0 n (routes_here making)) (sym peer_is)
    (c.in_ok-turn_to.ensures.above c.args.entry.peer (λ same. c.requires.next.above
    (subst (λ (p : IpPrefix). same_prefix p c.args.self.now.prefix ≡ true) c.prefix.ensures same))) in
    record {
      held = record {
        row = subst (IsRow 0 (length plan.peers)) (sym (ap (map sent_of_held) c.in_ok-push.ensures.items
            ∙ map-append sent_of_held making.held.items (c.hold-route.result ∷ [])))
            (IsRow-behind 0 (length plan.peers) (routes_here making) one row (omega arith) (omega (arith, peer_is, c.requires.known)));
        judged = subst (All (IsJudged plan)) (sym c.in_ok-push.ensures.items)
            (All-push (IsJudged plan) making.held.items c.hold-route.result c.in_ok-turn_to.ensures.making.held.judged
            c.hold-route.ensures.judged);
      };
      taken = subst (AreTakenBy plan making.prefix) (sym c.in_ok-push.ensures.items)
          (All-push (IsTakenBy plan making.prefix) making.held.items c.hold-route.result c.in_ok-turn_to.ensures.making.taken
          c.hold-route.ensures.taken);
      cells = c.in_ok-turn_to.ensures.making.cells;
      none = c.in_ok-turn_to.ensures.making.none;
    }

pub returns-clause-routes : goal.returns-clause-routes
returns-clause-routes c = λ peer q.
    let making = c.turn_to.new.self in
    let entry = c.args.entry in
    let one : SentRoute = sent_of_held c.hold-route.result in
    let peer_is : one.peer ≡ entry.peer = search rules in
    let time_is : one.time ≡ entry.time = search rules in
    let attributes_are : c.in-Some.attributes.value ≡ one.attributes = search rules in
    let announced : entry.attributes ≡ Some one.attributes =
    sym c.into_parts-peer.ensures.attributes ∙ ap (option_map (λ attributes. attributes.value)) c.in-Some.is
    ∙ ap (λ (a : PathAttributes). Some a) attributes_are in
    let route_is : entry_route entry ≡ Some (record { time = one.time; attributes = one.attributes }) =
    ap (option_map (λ (attributes : PathAttributes). let route : RouteLeft = record { time = entry.time; attributes = attributes } in
    route)) announced
    ∙ (λ i. Some (record { time = (sym time_is) i; attributes = one.attributes })) in
    let row : IsRow 0 entry.peer (routes_here making) =
    c.in_ok-turn_to.ensures.above entry.peer (λ same. c.requires.next.above
    (subst (λ (p : IpPrefix). same_prefix p c.args.self.now.prefix ≡ true) c.prefix.ensures same)) in
    added making (map sent_of_held c.push.new.self.items) one entry
    (ap (map sent_of_held) c.in_ok-push.ensures.items ∙ map-append sent_of_held making.held.items (c.hold-route.result ∷ []))
    peer_is route_is (c.in_ok-turn_to.ensures.prefix ∙ c.prefix.ensures) row peer q
    ∙ ap (λ routes. cond (is_of peer q entry) (entry_route entry) (route_at routes peer)) (c.in_ok-turn_to.ensures.routes q)

pub returns-clause-next : goal.returns-clause-next
returns-clause-next c = λ later before.
    let making = c.turn_to.new.self in
    let entry = c.args.entry in
    let one : SentRoute = sent_of_held c.hold-route.result in
    let peer_is : one.peer ≡ entry.peer = search rules in
    let prefix_is : making.prefix ≡ entry.prefix = c.in_ok-turn_to.ensures.prefix ∙ c.prefix.ensures in
    let row : IsRow 0 one.peer (routes_here making) =
    subst (λ n. IsRow 0 n (routes_here making)) (sym peer_is)
    (c.in_ok-turn_to.ensures.above entry.peer (λ same. c.requires.next.above
    (subst (λ (p : IpPrefix). same_prefix p c.args.self.now.prefix ≡ true) c.prefix.ensures same))) in
    record {
      ascends = subst (λ p. prefix_cmp later.prefix p ≢ Less) (sym prefix_is) (ascends-later entry later before);
      above = λ same.
          subst (IsRow 0 later.peer) (sym (ap (map sent_of_held) c.in_ok-push.ensures.items
          ∙ map-append sent_of_held making.held.items (c.hold-route.result ∷ [])))
          (IsRow-behind 0 later.peer (routes_here making) one row (omega arith)
          (omega (
            arith,
            peer_is,
            peer-later entry later before
                (subst (λ (p : IpPrefix). same_prefix later.prefix p ≡ true) prefix_is same),
          )));
    }
