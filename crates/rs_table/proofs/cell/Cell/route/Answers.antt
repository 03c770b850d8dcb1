use Rattle.std.proofs.Common.{rules, ◌≡◌, ◌∙◌, ap, sym, map, Some, None}
use Rattle.std.specs.Prelude.{slice_get}
use Rattle.std.specs.Option.{option_map}
use Rattle.std.proofs.lemmas.Option.{gets}
use Rattle.rs_choice.specs.Held.{sent_of_held}
use Rattle.rs_choice.specs.declared.held_route.HeldRoute.{HeldRoute}
use Rattle.rs_table.specs.ByPeer.{place_of, route_at}
use Rattle.rs_table.specs.Cell.{routes_in}
use Rattle.rs_table.specs.Table.{sent_by}
use Rattle.rs_table.proofs.cell.PlaceLemmas.{route_nowhere, route_there}
use Rattle.rs_table.proofs.cell.Cell.route.Goals as goal

pub returns-in_err-route : goal.returns-in_err-route
returns-in_err-route c =
    let held = c.self.inside.held.items in
    let peer = c.args.peer in
    let got : slice_get c.deref.result.now c.place.result ≡ None = search (rules, gets) in
    let place : c.place.result ≡ place_of (λ (one : HeldRoute). one.peer) held peer =
    c.place.ensures.place ∙ ap (λ xs. place_of (λ (one : HeldRoute). one.peer) xs peer) c.deref-2.ensures.value in
    let at : slice_get held (place_of (λ (one : HeldRoute). one.peer) held peer) ≡ None =
    sym (ap (slice_get held) place) ∙ ap (λ xs. slice_get xs c.place.result) (sym c.deref.ensures.value) ∙ got in
    let none : route_at (map sent_of_held held) peer ≡ None =
    route_nowhere 0 c.self.invariant.0 peer held (λ there. absurd (cc (there.1, at))) c.self.invariant.1 in
    ap (option_map _) c.from_residual.ensures
    ∙ sym (ap (λ cell. option_map (sent_by peer) (route_at (routes_in cell) peer)) (sym c.self.view_is)
    ∙ ap (option_map (sent_by peer)) none)

pub returns-then-from-peer : goal.returns-then-from-peer
returns-then-from-peer c =
    let held = c.self.inside.held.items in
    let peer = c.args.peer in
    let got : slice_get c.deref.result.now c.place.result ≡ Some c.in_ok-route.route.now = search (rules, gets) in
    let place : c.place.result ≡ place_of (λ (one : HeldRoute). one.peer) held peer =
    c.place.ensures.place ∙ ap (λ xs. place_of (λ (one : HeldRoute). one.peer) xs peer) c.deref-2.ensures.value in
    let at : slice_get held (place_of (λ (one : HeldRoute). one.peer) held peer) ≡ Some c.in_ok-route.route.now =
    sym (ap (slice_get held) place) ∙ ap (λ xs. slice_get xs c.place.result) (sym c.deref.ensures.value) ∙ got in
    let none : route_at (map sent_of_held held) peer ≡ None =
    route_nowhere 0 c.self.invariant.0 peer held (λ there. c.if-from-peer.true (cc (there.1, there.2, at, c.from.ensures)))
    c.self.invariant.1 in
    sym (ap (λ cell. option_map (sent_by peer) (route_at (routes_in cell) peer)) (sym c.self.view_is) ∙ ap (option_map (sent_by peer)) none)

pub returns : goal.returns
returns c =
    let held = c.self.inside.held.items in
    let peer = c.args.peer in
    let one = c.in_ok-route.route.now in
    let got : slice_get c.deref.result.now c.place.result ≡ Some one = search (rules, gets) in
    let place : c.place.result ≡ place_of (λ (one : HeldRoute). one.peer) held peer =
    c.place.ensures.place ∙ ap (λ xs. place_of (λ (one : HeldRoute). one.peer) xs peer) c.deref-2.ensures.value in
    let at : slice_get held (place_of (λ (one : HeldRoute). one.peer) held peer) ≡ Some one =
    sym (ap (slice_get held) place) ∙ ap (λ xs. slice_get xs c.place.result) (sym c.deref.ensures.value) ∙ got in
    ap (λ attributes. Some (record { peer = peer; time = one.time; attributes = attributes })) c.deref-3.ensures
    ∙ sym (ap (λ cell. option_map (sent_by peer) (route_at (routes_in cell) peer)) (sym c.self.view_is)
    ∙ ap (option_map (sent_by peer)) (route_there peer held one at (sym c.from.ensures ∙ c.if-from-peer.false)))
