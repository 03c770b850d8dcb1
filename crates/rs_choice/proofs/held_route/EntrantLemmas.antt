-- The entrants of chosen routes: how many there are, and that the standing of each is the stored one. For
-- entrants.rt.
use Rattle.std.proofs.Common.{◌≡◌, ◌∙◌, sym, ap, ◌<◌, length, Some, ℕ, List, get_or}
use Rattle.std.specs.Option.{option_map}
use Rattle.std.specs.Prelude.{slice_get, IsTrue}
use Rattle.std.proofs.lemmas.List.{length-map}
use Rattle.std.proofs.lemmas.List.Elements.{All-contains}
use Rattle.std.proofs.lemmas.Option.{get_or_from_slice_get, slice_get-get_or, slice_get-map}
use Rattle.rs_choice.specs.declared.candidate.Standing.{Standing}
use Rattle.rs_choice.specs.declared.entrants.Chosen.TheInside.{Inside}
use Rattle.rs_choice.specs.declared.held_route.HeldRoute.{HeldRoute}
use Rattle.rs_choice.specs.Decision.{no_standing}
use Rattle.rs_choice.specs.Candidacy.{is_candidate}
use Rattle.rs_choice.specs.Entrants.{chosen_of, chosen_view, standing_of_held, AreHeld}
use Rattle.rs_choice.specs.Grouping.{standing_in}
use Rattle.rs_choice.specs.Held.{held_standing, IsJudged}
use Rattle.rs_choice.specs.Plan.{Plan}
use Rattle.rs_choice.proofs.Members.{contains_at}
use Rattle.rs_choice.proofs.clients.ChosenLemmas.{chosen_at, chosen_length, within_at}

module _ (fields : Inside) (standings : List Standing) (are : AreHeld fields) (view : chosen_view fields ≡ standings) where
  abbrev plan : Plan
  plan = fields.plan.now

  abbrev held : List HeldRoute
  held = fields.held.now

  abbrev chosen : List HeldRoute
  chosen = chosen_of held fields.places.now

  pub counted : length standings ≡ length fields.places.now
  counted = ap length (sym view) ∙ length-map chosen (standing_of_held plan) ∙ chosen_length held fields.places.now are.within

  -- the route of an entrant, at its place
  module _ (k place : ℕ) (at : slice_get fields.places.now k ≡ Some place) where
    pub held_there : place < length held
    held_there = within_at held fields.places.now are.within k place at

    pub judged_there : (d : HeldRoute) → IsJudged plan (get_or held place d)
    judged_there d = are.judged place d held_there

    pub standing_there : (d : HeldRoute) → held_standing plan (get_or held place d) ≡ standing_in standings k
    standing_there d =
        let one = get_or held place d in
        let judged = judged_there d in
        let at_chosen : slice_get chosen k ≡ Some one =
        chosen_at held fields.places.now are.within k place at ∙ slice_get-get_or held place d held_there in
        let fit =
        All-contains (λ (one : HeldRoute). IsTrue (is_candidate one.candidacy)) chosen one are.fit (contains_at chosen k one at_chosen) in
        let at_view : slice_get (chosen_view fields) k ≡ Some (standing_of_held plan one) =
        slice_get-map (standing_of_held plan) chosen k ∙ ap (option_map (standing_of_held plan)) at_chosen in
        judged.standing fit
        ∙ sym (ap (λ view. standing_in view k) (sym view)
        ∙ get_or_from_slice_get (chosen_view fields) k (standing_of_held plan one) no_standing at_view)
