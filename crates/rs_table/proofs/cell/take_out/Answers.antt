use Rattle.std.proofs.Common.{◌≡◌, ◌∙◌, ap, sym, subst}
use Rattle.std.specs.List.{remove}
use Rattle.std.specs.Prelude.{IsTrue}
use Rattle.rs_choice.specs.Held.{IsAt}
use Rattle.rs_choice.specs.declared.held_route.HeldRoute.{HeldRoute}
use Rattle.rs_table.specs.ByPeer.{place_of}
use Rattle.rs_table.proofs.cell.ChangeLemmas.{without-none, without-remove}
use Rattle.rs_table.proofs.cell.take_out.Goals as goal

pub returns-then-not-is_at-clause-held : goal.returns-then-not-is_at-clause-held
returns-then-not-is_at-clause-held c =
    let held = c.args.held.now.items in
    let peer = c.args.peer in
    let place : c.place-place.result ≡ place_of (λ (one : HeldRoute). one.peer) held peer =
    c.place-place.ensures.place ∙ ap (λ xs. place_of (λ (one : HeldRoute). one.peer) xs peer) c.deref.ensures.value in
    without-none 0 c.requires.0 peer held c.requires.1 (λ at.
    let is : IsTrue c.is_at.result =
    c.is_at.ensures.1 (subst (λ xs. IsAt xs c.place-place.result peer) (sym c.deref-2.ensures.value)
    (subst (λ k. IsAt held k peer) (sym place) at)) in
    absurd (cc (is, c.if-not-is_at.true)))

pub returns-clause-held : goal.returns-clause-held
returns-clause-held c =
    let held = c.args.held.now.items in
    let peer = c.args.peer in
    let place : c.place-place.result ≡ place_of (λ (one : HeldRoute). one.peer) held peer =
    c.place-place.ensures.place ∙ ap (λ xs. place_of (λ (one : HeldRoute). one.peer) xs peer) c.deref.ensures.value in
    let there : IsAt held c.place-place.result peer =
    subst (λ xs. IsAt xs c.place-place.result peer) c.deref-2.ensures.value (c.is_at.ensures.0 c.if-not-is_at.false) in
    c.remove-old.ensures.items ∙ ap (remove held) place ∙ without-remove 0 c.requires.0 peer held c.requires.1
    (subst (λ k. IsAt held k peer) place there)
