-- The routes that stand at some places of a list, and the choice among them by neighbour groups.
-- For clients.rt, `choose_by_groups` of decision.rt, and entrants.rt.
use Rattle.std.proofs.Common.{◌≡◌, ◌∙◌, sym, ap, refl, ℕ, suc, zero, ◌+◌, ◌<◌, arith, inl, inr, List, [], ◌∷◌, ◌++◌, length, map, take}
use Rattle.std.proofs.Common.{get_or, Option, Some}
use Rattle.std.specs.Prelude.{slice_get}
use Rattle.std.specs.Option.{option_map}
use Rattle.std.proofs.lemmas.List.{map-append, take_more}
use Rattle.std.proofs.lemmas.List.Elements.{All-tail, filter_map-append}
use Rattle.std.proofs.lemmas.Option.{get_or_from_slice_get, slice_get_within}
use Rattle.rs_choice.specs.declared.candidate.Standing.{Standing}
use Rattle.rs_choice.specs.declared.candidate.Placed.{Placed}
use Rattle.rs_choice.specs.declared.held_route.HeldRoute.{HeldRoute}
use Rattle.rs_choice.specs.declared.neighbour_groups.Group.{Group}
use Rattle.rs_choice.specs.Decision.{SentRoute, choice, member_at, place_of_choice, standing_of}
use Rattle.rs_choice.specs.Entrants.{chosen_of, standing_of_held}
use Rattle.rs_choice.specs.Grouping.{places_of, standing_in, AreGroups, IsFirstOf}
use Rattle.rs_choice.specs.Held.{sent_of_held}
use Rattle.rs_choice.specs.Naturality.{choice-map, member_at-place_of_choice, option_map-option_map, place_of_choice-map}
use Rattle.rs_choice.specs.Plan.{Plan}
use Rattle.rs_choice.specs.Sharing.{sents_at, ArePlaces}
use Rattle.rs_choice.proofs.neighbour_groups.GroupChoice.{first_is_choice}
use Rattle.rs_choice.proofs.Members.{Mem, some_at}

chosen_first : (held : List HeldRoute) (place : ℕ) (places : List ℕ) (one : HeldRoute) → slice_get held place ≡ Some one →
    chosen_of held (place ∷ places) ≡ one ∷ chosen_of held places
chosen_first held place places one at = rw at refl

-- there is a route at each place
pub chosen_length : (held : List HeldRoute) (places : List ℕ) → ArePlaces held places → length (chosen_of held places) ≡ length places
chosen_length held [] all = refl
chosen_length held (place ∷ places) all =
    let found = some_at held place (all 0 0 (omega arith)) in
    ap length (chosen_first held place places found.0 found.1)
    ∙ ap suc (chosen_length held places (All-tail (λ place. place < length held) place places all))

pub chosen_at : (held : List HeldRoute) (places : List ℕ) → ArePlaces held places → (i place : ℕ) → slice_get places i ≡ Some place →
    slice_get (chosen_of held places) i ≡ slice_get held place
chosen_at held [] all i place at = absurd (cc (at))
chosen_at held (first ∷ places) all zero place at =
    let found = some_at held first (all 0 0 (omega arith)) in
    let e : first ≡ place = cc (at) in
    ap (λ list. slice_get list 0) (chosen_first held first places found.0 found.1) ∙ sym found.1 ∙ ap (slice_get held) e
chosen_at held (first ∷ places) all (suc i) place at =
    let found = some_at held first (all 0 0 (omega arith)) in
    ap (λ list. slice_get list (suc i)) (chosen_first held first places found.0 found.1)
    ∙ chosen_at held places (All-tail (λ place. place < length held) first places all) i place at

-- one more place gives one more route
pub chosen_push : (held : List HeldRoute) (places : List ℕ) (place : ℕ) (one : HeldRoute) → slice_get held place ≡ Some one →
    chosen_of held (places ++ place ∷ []) ≡ chosen_of held places ++ one ∷ []
chosen_push held places place one at =
    filter_map-append (slice_get held) places (place ∷ []) ∙ ap (λ list. chosen_of held places ++ list) (chosen_first held place [] one at)

pub within_at : (held : List HeldRoute) (places : List ℕ) → ArePlaces held places → (i place : ℕ) → slice_get places i ≡ Some place
    → place < length held
within_at held places all i place at =
    let within = slice_get_within places i place at in
    let is = get_or_from_slice_get places i place 0 at in
    let found : get_or places i 0 < length held = all i 0 within in
    omega (arith, found, is)

pub take_one_more : {X : Type 0} (xs : List X) (i : ℕ) (x : X) → slice_get xs i ≡ Some x → take (i + 1) xs ≡ take i xs ++ x ∷ []
take_one_more xs i x at = take_more xs i x (slice_get_within xs i x at) ∙ ap (λ y. take i xs ++ y ∷ []) (get_or_from_slice_get xs i x x at)

-- ---- as a list of places grows

pub sents_push : (held : List HeldRoute) (places : List ℕ) (place : ℕ) (one : HeldRoute) → slice_get held place ≡ Some one →
    sents_at held (places ++ place ∷ []) ≡ sents_at held places ++ sent_of_held one ∷ []
sents_push held places place one at =
    ap (map sent_of_held) (chosen_push held places place one at) ∙ map-append sent_of_held (chosen_of held places) (one ∷ [])

pub sents_more : (held : List HeldRoute) (places : List ℕ) (i place : ℕ) (one : HeldRoute) → slice_get places i ≡ Some place
    → slice_get held place ≡ Some one →
    sents_at held (take (i + 1) places) ≡ sents_at held (take i places) ++ sent_of_held one ∷ []
sents_more held places i place one at_places at =
    ap (sents_at held) (take_one_more places i place at_places) ∙ sents_push held (take i places) place one at

-- who stands at one of the places is one of the chosen
pub mem_chosen : (held : List HeldRoute) (places : List ℕ) → ArePlaces held places → (place : ℕ) (one : HeldRoute) → Mem places place
    → slice_get held place ≡ Some one →
    Mem (chosen_of held places) one
mem_chosen held [] all place one h at = absurd h
mem_chosen held (first ∷ places) all place one (inl same) at =
    let at_first : slice_get held first ≡ Some one = ap (slice_get held) same ∙ at in
    rw (chosen_first held first places one at_first) (inl refl)
mem_chosen held (first ∷ places) all place one (inr h) at =
    let found = some_at held first (all 0 0 (omega arith)) in
    rw (chosen_first held first places found.0 found.1) (inr
    (mem_chosen held places (All-tail (λ place. place < length held) first places all) place one h at))

-- the first of the groups of all members stands at the place of the choice
pub place_by_groups : {M : Type 0} (standing : M → Standing) (set : List M) (groups : List Group) (first : Option Placed) →
    AreGroups (standing_in (map standing set)) (length (map standing set)) groups →
    IsFirstOf (standing_in (map standing set)) (places_of groups) (length (places_of groups)) first →
    place_of_choice standing set ≡ option_map (λ first. first.place) first
place_by_groups standing set groups first are is =
    sym (place_of_choice-map standing (λ one. one) set) ∙ first_is_choice (map standing set) (places_of groups) are.grouping first is

-- the peer of the route at the place of the choice is the choice's
pub peer_of_choice : (plan : Plan) (held : List HeldRoute) (place : Option ℕ) → place_of_choice (standing_of_held plan) held ≡ place →
    option_map (λ (one : HeldRoute). one.peer) (member_at held place)
    ≡ option_map (λ (sent : SentRoute). sent.peer) (choice (standing_of plan) (map sent_of_held held))
peer_of_choice plan held place is =
    ap (λ place. option_map (λ (one : HeldRoute). one.peer) (member_at held place)) (sym is)
    ∙ ap (option_map (λ (one : HeldRoute). one.peer)) (member_at-place_of_choice (standing_of_held plan) held)
    ∙ sym (ap (option_map (λ (sent : SentRoute). sent.peer)) (choice-map sent_of_held (standing_of plan) held)
    ∙ option_map-option_map sent_of_held (λ (sent : SentRoute). sent.peer) (choice (standing_of_held plan) held))
