use Rattle.std.proofs.Common.{◌∙◌, sym, ap, Option}
use Rattle.std.specs.Option.{option_map}
use Rattle.std.proofs.lemmas.Option.{slice_get-get_or}
use Rattle.rs_choice.specs.declared.held_route.HeldRoute.{HeldRoute}
use Rattle.rs_choice.specs.declared.candidate.Placed.{Placed}
use Rattle.rs_choice.specs.Decision.{member_at}
use Rattle.rs_choice.specs.Entrants.{chosen_of}
use Rattle.rs_choice.proofs.clients.ChosenLemmas.{chosen_at, within_at}
use Rattle.rs_choice.proofs.clients.first_peer.Goals as goal

pub bounds-held-place : goal.bounds-held-place
bounds-held-place c =
    within_at c.args.held.now c.args.places.now c.requires.places c.in-Some.first.place c.place.result c.place.ensures.value

pub returns-in-Some : goal.returns-in-Some
returns-in-Some c =
    let held = c.args.held.now in
    let places = c.args.places.now in
    let one = c.index-held-place.result in
    let within = within_at held places c.requires.places c.in-Some.first.place c.place.result c.place.ensures.value in
    let at_chosen = chosen_at held places c.requires.places c.in-Some.first.place c.place.result c.place.ensures.value
    ∙ slice_get-get_or held c.place.result one within in
    let is = ap (λ (first : Option Placed). option_map (λ (held : HeldRoute). held.peer)
    (member_at (chosen_of held places) (option_map (λ (first : Placed). first.place) first))) c.in-Some.is in
    sym (is ∙ ap (option_map (λ (held : HeldRoute). held.peer)) at_chosen)
