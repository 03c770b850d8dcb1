-- The place is that of the peer's route, or the last of all places, where no route stands.
use Rattle.std.proofs.Common.{◌≡◌, ◌∙◌, ap, sym, subst, arith}
use Rattle.std.specs.Prelude.{IsTrue}
use Rattle.rs_choice.specs.Held.{IsAt}
use Rattle.rs_choice.specs.declared.held_route.HeldRoute.{HeldRoute}
use Rattle.rs_table.specs.ByPeer.{place_of}
use Rattle.rs_table.proofs.cell.BestLemmas.{few, place-nowhere, place-there}
use Rattle.rs_table.proofs.cell.ChangeLemmas.{at_gives}
use Rattle.rs_table.proofs.cell.place_or_none.Goals as goal

pub place-place-requires : goal.place-place-requires
place-place-requires c = (256, c.requires)

pub returns-then-not-is_at : goal.returns-then-not-is_at
returns-then-not-is_at c =
    let held = c.args.held.now in
    let peer = c.args.peer in
    let place : c.place-place.result ≡ place_of (λ (one : HeldRoute). one.peer) held peer =
    c.place-place.ensures.place ∙ ap (place_of (λ (one : HeldRoute). one.peer) held) c.from-number.ensures in
    place-nowhere held peer c.place-place.result place (λ at.
    let is : IsTrue c.is_at.result =
    c.is_at.ensures.1 (subst (IsAt held c.place-place.result) (sym c.from-number.ensures) at) in
    absurd (cc (is, c.if-not-is_at.true))) (omega (arith, c.ranges.peer)) c.requires

pub returns : goal.returns
returns c =
    let held = c.args.held.now in
    let peer = c.args.peer in
    let place : c.place-place.result ≡ place_of (λ (one : HeldRoute). one.peer) held peer =
    c.place-place.ensures.place ∙ ap (place_of (λ (one : HeldRoute). one.peer) held) c.from-number.ensures in
    place-there held peer c.place-place.result place
    (subst (IsAt held c.place-place.result) c.from-number.ensures (c.is_at.ensures.0 c.if-not-is_at.false))

pub overflow_cast-result : goal.overflow_cast-result
overflow_cast-result c =
    let held = c.args.held.now in
    let there = c.is_at.ensures.0 c.if-not-is_at.false in
    omega (arith, (at_gives held c.place-place.result c.from-number.result there.0 there).0, few 256 held c.requires)
