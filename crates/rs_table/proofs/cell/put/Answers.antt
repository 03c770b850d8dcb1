-- The route stands where its peer's stood, or comes in at its place.
use Rattle.std.proofs.Common.{◌≡◌, ◌<◌, ◌∙◌, ap, sym, subst, arith}
use Rattle.std.specs.Prelude.{IsTrue, vec_capacity, vec_len}
use Rattle.rs_choice.specs.Held.{IsAt}
use Rattle.rs_choice.specs.declared.held_route.HeldRoute.{HeldRoute}
use Rattle.rs_table.specs.ByPeer.{place_of}
use Rattle.rs_table.proofs.cell.ChangeLemmas.{at_from, at_gives}
use Rattle.rs_table.proofs.cell.PutLemmas.{put-set, put-insert, length-put, when_ok, IsApart}
use Rattle.rs_table.proofs.cell.put.Goals as goal

pub returns-then-is_at-clause-held : goal.returns-then-is_at-clause-held
returns-then-is_at-clause-held c =
    let held = c.args.held.now.items in
    let route = c.args.route in
    let place = c.place-place.result in
    let at_place : place ≡ place_of (λ (one : HeldRoute). one.peer) held route.peer =
    c.place-place.ensures.place ∙ ap (λ xs. place_of (λ (one : HeldRoute). one.peer) xs c.from-peer.result) c.deref.ensures.value
    ∙ ap (place_of (λ (one : HeldRoute). one.peer) held) c.from-peer.ensures in
    let there : IsAt held place route.peer =
    subst (IsAt held place) c.from-peer.ensures (subst (λ xs. IsAt xs place c.from-peer.result) c.deref-2.ensures.value
    (c.is_at.ensures.0 c.if-is_at.true)) in
    let facts = at_gives held place route.peer route there in
    put-set (λ one. one.peer) held route place at_place facts.0 facts.1

pub returns-clause-held : goal.returns-clause-held
returns-clause-held c =
    let held = c.args.held.now.items in
    let route = c.args.route in
    let place = c.place-place.result in
    let at_place : place ≡ place_of (λ (one : HeldRoute). one.peer) held route.peer =
    c.place-place.ensures.place ∙ ap (λ xs. place_of (λ (one : HeldRoute). one.peer) xs c.from-peer.result) c.deref.ensures.value
    ∙ ap (place_of (λ (one : HeldRoute). one.peer) held) c.from-peer.ensures in
    let nowhere : IsAt held place route.peer → ⊥ = λ at.
    let is : IsTrue c.is_at.result =
    c.is_at.ensures.1 (subst (λ xs. IsAt xs place c.from-peer.result) (sym c.deref-2.ensures.value)
    (subst (IsAt held place) (sym c.from-peer.ensures) at)) in
    absurd (cc (is, c.if-is_at.false)) in
    let apart : IsApart (λ (one : HeldRoute). one.peer) held route place at_place =
    λ within same. nowhere (at_from held place route.peer route within same) in
    let room : vec_len c.args.held.now < vec_capacity c.args.held.now =
    omega (arith, c.requires.room, length-put (λ one. one.peer) held route place at_place apart, c.args.held.now.ok.0) in
    c.insert-inserted.ensures.items ∙ when_ok c.insert-inserted.result _ _ (c.insert-inserted.ensures.succeeds room)
    ∙ put-insert (λ one. one.peer) held route place at_place apart
