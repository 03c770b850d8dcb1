use Rattle.std.proofs.Common.{◌≡◌, ◌<◌, ◌∙◌, List, ap, subst, sym, arith, length, map}
use Rattle.std.specs.List.{refill}
use Rattle.rs_choice.specs.Clients.{AreBest}
use Rattle.rs_choice.specs.Held.{sent_of_held, taken_in}
use Rattle.rs_choice.specs.declared.held_route.HeldRoute.{HeldRoute}
use Rattle.rs_table.specs.Cell.{AreBestPlaces, AreHeld, ArePlacesOf}
use Rattle.rs_table.proofs.cell.BestLemmas.{refill-all, IsRow-wider}
use Rattle.rs_table.proofs.cell.HeldLemmas.{few-held}
use Rattle.rs_table.proofs.tables.StoredLemmas.{places-best}
use Rattle.rs_table.proofs.cell.Cell.decide.Goals as goal

pub choose_for_all-requires-clause-bound : goal.choose_for_all-requires-clause-bound
choose_for_all-requires-clause-bound c =
    let held : AreHeld c.args.plan.now c.deref.result.now =
    subst (AreHeld c.args.plan.now) (sym (c.deref.ensures.value ∙ ap (λ cell. cell.held) c.self.view_is)) c.requires.held in
    omega (arith, few-held c.args.plan.now c.deref.result.now held, c.count-peers.ensures.value, c.count-peers.ensures.bound)

pub to_places-requires : goal.to_places-requires
to_places-requires c =
    let plan = c.args.plan.now in
    let held : AreHeld plan c.deref-2.result.now =
    subst (AreHeld plan) (sym (c.deref-2.ensures.value ∙ ap (λ cell. cell.held) c.self.view_is)) c.requires.held in record {
      row = IsRow-wider 0 (length plan.peers) 256 (map sent_of_held c.deref-2.result.now)
          (omega (arith, c.count-peers.ensures.value, c.count-peers.ensures.bound)) held.row;
      some = subst (λ (one : List HeldRoute). 0 < length one) (sym (c.deref-2.ensures.value ∙ ap (λ cell. cell.held) c.self.view_is))
          c.requires.some;
    }

pub returns-clause-cell : goal.returns-clause-cell
returns-clause-cell c =
    let plan = c.args.plan.now in
    let held = c.self.inside.held.items in
    let before = c.self.inside.bests.items in
    let peers = c.choose_for_all.new.bests in
    let places = c.to_places.new.bests in
    let are_held : AreHeld plan held = subst (λ cell. AreHeld plan cell.held) (sym c.self.view_is) c.requires.held in
    let chosen : AreBest plan (taken_in held) peers =
    subst (λ (one : List HeldRoute). AreBest plan (taken_in one) peers) c.deref.ensures.value c.choose_for_all.ensures.best in
    let placed : ArePlacesOf (map sent_of_held held) peers places =
    subst (λ (one : List HeldRoute). ArePlacesOf (map sent_of_held one) peers places) c.deref-2.ensures.value c.to_places.ensures.places in
    let count : length places ≡ length plan.peers = c.to_places.ensures.count ∙ c.choose_for_all.ensures.count in
    let many : length before ≡ length plan.peers = ap (λ cell. length cell.bests) c.self.view_is ∙ c.requires.count in
    let stored : refill (length before) before places ≡ places = refill-all before places (count ∙ sym many) in record {
      held = are_held;
      some = subst (λ cell. 0 < length cell.held) (sym c.self.view_is) c.requires.some;
      count = ap length stored ∙ count;
      best = subst (AreBestPlaces plan held) (sym stored)
          (places-best plan held peers places are_held.row c.choose_for_all.ensures.count chosen placed);
    }

pub invariant_of-self : goal.invariant_of-self
invariant_of-self c =
    c.self.invariant
