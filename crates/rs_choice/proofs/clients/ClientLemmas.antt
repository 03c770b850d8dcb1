-- What is shared of the decisions of all clients, from the groups of the eligible routes: for `share` and `chosen_peer` of clients.rt;
-- and the places of the eligible routes, for `choose_for_all` and `common`.
use Rattle.std.proofs.Common.{◌≡◌, ◌∙◌, sym, ap, subst, refl, ℕ, ◌<◌, arith, Bool, true, cond, List, [], ◌∷◌, length, map, get_or, Option}
use Rattle.std.proofs.Common.{Some, None}
use Rattle.std.specs.Prelude.{slice_get, filter, IfSome, ◌&&◌}
use Rattle.std.specs.List.{All, Contains}
use Rattle.std.specs.Option.{option_map, MatchOption}
use Rattle.std.proofs.lemmas.Bool.{cond_both}
use Rattle.std.proofs.lemmas.List.{length-map}
use Rattle.std.proofs.lemmas.List.Elements.{All-tail, filter_passes}
use Rattle.std.proofs.lemmas.Option.{slice_get-get_or, slice_get_within}
use Rattle.rs_choice.specs.declared.candidate.Standing.{Standing}
use Rattle.rs_choice.specs.declared.candidate.Placed.{Placed}
use Rattle.rs_choice.specs.declared.held_route.HeldRoute.{HeldRoute}
use Rattle.rs_choice.specs.declared.neighbour_groups.Group.{Group}
use Rattle.rs_choice.specs.Candidacy.{is_candidate, is_taken_in}
use Rattle.rs_choice.specs.Clients.{candidates_among, eligible_among, is_sent_to}
use Rattle.rs_choice.specs.Contenders.{HoldCandidates}
use Rattle.rs_choice.specs.Decision.{SentRoute, choice, member_at, standing_of}
use Rattle.rs_choice.specs.Eligibility.{is_eligible}
use Rattle.rs_choice.specs.Entrants.{chosen_of, standing_of_held}
use Rattle.rs_choice.specs.Grouping.{places_of, standing_in, AreGroups, IsFirstOf}
use Rattle.rs_choice.specs.Held.{sent_of_held, taken_in, AreCandidates, IsJudged}
use Rattle.rs_choice.specs.Naturality.{choice-map, filter-map}
use Rattle.rs_choice.specs.Plan.{Plan}
use Rattle.rs_choice.specs.Sharing.{sents_at, ArePlaces, AreWeighing, RestsOn, Weighs}
use Rattle.rs_choice.proofs.clients.ChosenLemmas.{chosen_at, chosen_length, mem_chosen, place_by_groups, peer_of_choice}
use Rattle.rs_choice.proofs.neighbour_groups.GroupMarks.{group_at, place_within}
use Rattle.rs_choice.proofs.Members.{contains-mem, mem-contains, mem_map}
use Rattle.rs_choice.proofs.neighbour_groups.GroupSettling.{groups_settle}

pub view_length : (plan : Plan) (held : List HeldRoute) (places : List ℕ) → ArePlaces held places →
    length (map (standing_of_held plan) (chosen_of held places)) ≡ length places
view_length plan held places all = length-map (chosen_of held places) (standing_of_held plan) ∙ chosen_length held places all

abbrev is_fit : HeldRoute → Bool
is_fit one = is_candidate one.candidacy

abbrev is_in : HeldRoute → Bool
is_in one = is_taken_in one.candidacy

abbrev is_eligible_held : Plan → HeldRoute → Bool
is_eligible_held plan one = is_eligible plan one.peer one.attributes.value

-- the routes that may be candidates, by what is stored of each one: the eligible ones of those that are taken in
fit_alike : (plan : Plan) (held : List HeldRoute) → All (IsJudged plan) held →
    filter is_fit held ≡ filter (is_eligible_held plan) (filter is_in held)
fit_alike plan [] all = refl
fit_alike plan (one ∷ later) all =
    let judged = all 0 one (omega arith) in
    let rest = fit_alike plan later (All-tail (IsJudged plan) one later all) in
    cond_both (is_in one) (one ∷ filter is_in later) (filter is_in later)
    (λ list. filter is_fit (one ∷ later) ≡ filter (is_eligible_held plan) list)
    (λ taken. ap (λ b. cond b (one ∷ filter is_fit later) (filter is_fit later))
    (judged.candidate ∙ ap (λ b. b && is_eligible_held plan one) taken)
    ∙ ap (λ list. cond (is_eligible_held plan one) (one ∷ list) list) rest)
    (λ refused. ap (λ b. cond b (one ∷ filter is_fit later) (filter is_fit later))
    (judged.candidate ∙ ap (λ b. b && is_eligible_held plan one) refused)
    ∙ rest)

pub eligible_sents : (plan : Plan) (held : List HeldRoute) (places : List ℕ) → All (IsJudged plan) held →
    chosen_of held places ≡ filter (λ (one : HeldRoute). is_candidate one.candidacy) held
    → sents_at held places ≡ eligible_among plan (taken_in held)
eligible_sents plan held places all is =
    ap (map sent_of_held) (is ∙ fit_alike plan held all)
    ∙ sym (filter-map sent_of_held (λ (sent : SentRoute). is_eligible plan sent.peer sent.attributes) (filter is_in held))

pub fit_all : (held : List HeldRoute) (places : List ℕ)
    → chosen_of held places ≡ filter (λ (one : HeldRoute). is_candidate one.candidacy) held → AreCandidates (chosen_of held places)
fit_all held places is = subst AreCandidates (sym is) (filter_passes is_fit held)

-- a test passes all that it left
filter_twice : {X : Type 0} (p : X → Bool) (xs : List X) → filter p (filter p xs) ≡ filter p xs
filter_twice p [] = refl
filter_twice p (x ∷ xs) = cond_both (p x) (x ∷ filter p xs) (filter p xs) (λ list. filter p list ≡ list)
    (λ passes. ap (λ b. cond b (x ∷ filter p (filter p xs)) (filter p (filter p xs))) passes ∙ ap (λ list. x ∷ list) (filter_twice p xs))
    (λ fails. filter_twice p xs)

-- the candidates of each client are among the eligible routes
pub fit_hold : (plan : Plan) (held : List HeldRoute) (places : List ℕ) → All (IsJudged plan) held → ArePlaces held places →
    chosen_of held places ≡ filter (λ (one : HeldRoute). is_candidate one.candidacy) held → (client : ℕ)
    → HoldCandidates plan client held places
fit_hold plan held places judged within is client =
    let same = eligible_sents plan held places judged is in
    record {
      within = within;
      fit = fit_all held places is;
      same = ap (candidates_among plan client) same
          ∙ ap (filter (is_sent_to plan client)) (filter_twice (λ (sent : SentRoute). is_eligible plan sent.peer sent.attributes)
          (taken_in held));
    }

-- what holds of what was found, and of what is put where nothing was, holds of what is there then
pub there : {X : Type 0} {Q : Type 0} (P : X → Type 0) (found : Option X) (one : X) → MatchOption found Q (λ x. one ≡ x) → (Q → P one)
    → IfSome found P → P one
there P None one put holds found = holds put
there P (Some x) one same holds found = subst P (sym same) found

pub weighing_places : (held : List HeldRoute) (eligible weighing : List ℕ) → ArePlaces held eligible
    → All (λ place. Contains eligible place) weighing → ArePlaces held weighing
weighing_places held eligible weighing all among k d within =
    let found = among k d within in
    let below = all found.0 (get_or weighing k d) found.1 in
    omega (arith, below, found.2)

module _ (plan : Plan) (held : List HeldRoute) (places : List ℕ) (groups : List Group) where
  abbrev chosen : List HeldRoute
  chosen = chosen_of held places

  abbrev view : List Standing
  view = map (standing_of_held plan) chosen

  -- all groups, and the first of them, stand at places of the list
  pub groups_within : ArePlaces held places → AreGroups (standing_in view) (length view) groups
      → All (λ group. group.place < length places) groups
  groups_within all are k d within =
      omega (
        arith,
        place_within (standing_in view) (length view) groups are k (get_or groups k d) (slice_get-get_or groups k d within),
        view_length plan held places all,
      )

  pub first_within : (n : ℕ) (first : Option Placed) → ArePlaces held places → AreGroups (standing_in view) (length view) groups
      → IsFirstOf (standing_in view) (places_of groups) n first →
      IfSome first (λ first. first.place < length places)
  first_within n None all are is = tt
  first_within n (Some first) all are is = omega (arith, are.grouping.within is.0.0 first.place is.0.1, view_length plan held places all)

  -- the peer of the first of the groups is the choice's
  pub chosen_is : (first : Option Placed) → AreGroups (standing_in view) (length view) groups
      → IsFirstOf (standing_in view) (places_of groups) (length (places_of groups)) first →
      option_map (λ (one : HeldRoute). one.peer) (member_at chosen (option_map (λ (first : Placed). first.place) first))
      ≡ option_map (λ (sent : SentRoute). sent.peer) (choice (standing_of plan) (sents_at held places))
  chosen_is first are is =
      peer_of_choice plan chosen (option_map (λ first. first.place) first)
      (place_by_groups (standing_of_held plan) chosen groups first are is)

  -- without a group there is no entrant
  no_entrant : AreGroups (standing_in view) (length view) groups → length (places_of groups) ≡ 0 → (xs : List HeldRoute)
      → length xs ≡ length view → xs ≡ []
  no_entrant are none [] same = refl
  no_entrant are none (x ∷ xs) same =
      let found = are.grouping.all 0 (omega (arith, same)) in
      let within = slice_get_within (places_of groups) found.0 found.1 found.2 in
      absurd (omega (arith, within, none))

  -- the choice among the chosen stays while those that have a weight stay
  settled : (first : Option Placed) → AreGroups (standing_in view) (length view) groups
      → IsFirstOf (standing_in view) (places_of groups) (length (places_of groups)) first →
      (kept : HeldRoute → Bool) →
      ((i : ℕ) (group : Group) (one : HeldRoute) → slice_get groups i ≡ Some group → Weighs group first
      → slice_get chosen group.place ≡ Some one → kept one ≡ true) →
      choice (standing_of_held plan) (filter kept chosen) ≡ choice (standing_of_held plan) chosen
  settled None are none kept keeps =
      let empty = no_entrant are none chosen (sym (length-map chosen (standing_of_held plan))) in
      ap (λ list. choice (standing_of_held plan) (filter kept list)) empty ∙ sym (ap (choice (standing_of_held plan)) empty)
  settled (Some first) are is kept keeps =
      let n = length-map chosen (standing_of_held plan) in
      groups_settle (standing_of_held plan) chosen groups first (rw n at are)
      (place_by_groups (standing_of_held plan) chosen groups (Some first) are is)
      (let found = group_at groups is.0.0 first.place is.0.1 in (is.0.0, found.0, found.1, found.2))
      kept keeps

  rests_by : (kept : SentRoute → Bool) → choice (standing_of_held plan) (filter (λ one. kept (sent_of_held one)) chosen)
      ≡ choice (standing_of_held plan) chosen →
      choice (standing_of plan) (filter kept (sents_at held places)) ≡ choice (standing_of plan) (sents_at held places)
  rests_by kept same =
      ap (choice (standing_of plan)) (filter-map sent_of_held kept chosen)
      ∙ choice-map sent_of_held (standing_of plan) (filter (λ one. kept (sent_of_held one)) chosen)
      ∙ ap (option_map sent_of_held) same
      ∙ sym (choice-map sent_of_held (standing_of plan) chosen)

  pub rests : (first : Option Placed) (weighing : List ℕ) → ArePlaces held places → ArePlaces held weighing →
      AreGroups (standing_in view) (length view) groups → IsFirstOf (standing_in view) (places_of groups) (length (places_of groups)) first
      →
      AreWeighing places groups first weighing → RestsOn plan (sents_at held places) (sents_at held weighing)
  rests first weighing all all_weighing are is weigh kept keeps =
      rests_by kept (settled first are is (λ one. kept (sent_of_held one)) (λ i group one at weighs at_one.
      let within = place_within (standing_in view) (length view) groups are i group at in
      let n = view_length plan held places all in
      let place = get_or places group.place 0 in
      let at_place : slice_get places group.place ≡ Some place = slice_get-get_or places group.place 0 (omega (arith, within, n)) in
      let at_held : slice_get held place ≡ Some one = sym (chosen_at held places all group.place place at_place) ∙ at_one in
      let weighed = contains-mem weighing place (weigh.all i group at weighs place at_place) in
      keeps (sent_of_held one)
      (mem-contains (sents_at held weighing) (sent_of_held one)
      (mem_map sent_of_held (chosen_of held weighing) one (mem_chosen held weighing all_weighing place one weighed at_held)))))
