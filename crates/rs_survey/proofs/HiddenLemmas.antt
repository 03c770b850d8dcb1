-- The choice that all clients would share, of the routes seen: for hidden.rt.
use Rattle.std.proofs.Common.{◌≡◌, ◌∙◌, sym, ap, refl, arith, ℕ, ◌<◌, ◌≤◌, false, cond, inl, inr, List, [], ◌∷◌, length, map}
use Rattle.std.specs.Prelude.{filter, Option, None, Some, IfSome, is_none, is_some}
use Rattle.std.specs.List.{All}
use Rattle.std.specs.Option.{option_map, option_map_or}
use Rattle.std.proofs.lemmas.Bool.{cases_Bool}
use Rattle.std.proofs.lemmas.List.{length-map}
use Rattle.std.proofs.lemmas.List.Elements.{All-cons, All-nil, All-tail}
use Rattle.std.proofs.lemmas.List.Sums.{count_by-le-length, length-filter}
use Rattle.rs_choice.specs.declared.candidate.Candidate.{Candidate}
use Rattle.rs_choice.specs.Clients.{eligible_among, is_sent_to}
use Rattle.rs_choice.specs.Decision.{choice, standing_of, standing_of_candidate}
use Rattle.rs_choice.specs.Eligibility.{is_eligible}
use Rattle.rs_choice.specs.Naturality.{choice-All, choice-map, filter-map}
use Rattle.rs_choice.specs.Plan.{Plan}
use Rattle.rs_survey.specs.declared.seen.Seen.{Seen}
use Rattle.rs_survey.specs.Seen.{IsSeen, candidate_of_seen, is_open_to, sent_of_seen}
use Rattle.rs_survey.specs.Summary.{shared_choice}
use Rattle.rs_survey.proofs.SeenLemmas.{eligible_seen}

abbrev pub fit : List Seen → List Seen
fit seen = filter (λ one. is_none one.failed) seen

pub all_known : (plan : Plan) (seen : List Seen) → All (IsSeen plan) seen →
    All (λ candidate. candidate.peer < length plan.peers) (map candidate_of_seen (fit seen))
all_known plan [] all = All-nil (λ (candidate : Candidate). candidate.peer < length plan.peers)
all_known plan (one ∷ seen) all =
    let later = all_known plan seen (All-tail (IsSeen plan) one seen all) in
    elim (cases_Bool (is_none one.failed)) [
      | inl kept ↦ rw kept (All-cons (λ (candidate : Candidate). candidate.peer < length plan.peers) (candidate_of_seen one)
          (map candidate_of_seen (fit seen)) (all 0 one (omega arith)).known later)
      | inr dropped ↦ rw dropped later
    ]

pub few_fit : (seen : List Seen) → length (map candidate_of_seen (fit seen)) ≤ length seen
few_fit seen =
    omega (
      arith,
      length-map (fit seen) candidate_of_seen,
      length-filter (λ one. is_none one.failed) seen,
      count_by-le-length (λ one. is_none one.failed) seen,
    )

eligible_are : (plan : Plan) (seen : List Seen) → All (IsSeen plan) seen →
    filter (λ one. is_eligible plan one.route.peer one.route.attributes.now) seen ≡ fit seen
eligible_are plan [] all = refl
eligible_are plan (one ∷ seen) all =
    let later = eligible_are plan seen (All-tail (IsSeen plan) one seen all) in
    let here = eligible_seen plan one (all 0 one (omega arith)) in
    λ i. cond (here i) (one ∷ later i) (later i)

open_to_both : (plan : Plan) (client : ℕ) (chosen : Option Seen) →
    is_open_to plan (option_map candidate_of_seen chosen) client
    ≡ option_map_or (is_sent_to plan client) (option_map sent_of_seen chosen) false
open_to_both plan client None = refl
open_to_both plan client (Some one) = refl

pub shared_by_all : (plan : Plan) (seen : List Seen) (client : ℕ) (chosen : Option Candidate) → All (IsSeen plan) seen →
    chosen ≡ choice (standing_of_candidate plan) (map candidate_of_seen (fit seen)) →
    is_open_to plan chosen client ≡ option_map_or (is_sent_to plan client) (shared_choice plan (map sent_of_seen seen)) false
shared_by_all plan seen client chosen all is =
    let first : Option Seen = choice (λ one. standing_of plan (sent_of_seen one)) (fit seen) in
    let as_candidate : chosen ≡ option_map candidate_of_seen first =
    is ∙ choice-map candidate_of_seen (standing_of_candidate plan) (fit seen) in
    let eligible : eligible_among plan (map sent_of_seen seen) ≡ map sent_of_seen (fit seen) =
    filter-map sent_of_seen (λ sent. is_eligible plan sent.peer sent.attributes) seen ∙ ap (map sent_of_seen)
    (eligible_are plan seen all) in
    let as_sent : shared_choice plan (map sent_of_seen seen) ≡ option_map sent_of_seen first =
    ap (choice (standing_of plan)) eligible ∙ choice-map sent_of_seen (standing_of plan) (fit seen) in
    ap (λ (one : Option Candidate). is_open_to plan one client) as_candidate ∙ open_to_both plan client first
    ∙ sym (ap (λ one. option_map_or (is_sent_to plan client) one false) as_sent)

if_some : {A : Type 0} (P : A → Type 0) (o : Option A) → ((x : A) → o ≡ Some x → P x) → IfSome o P
if_some P None each = tt
if_some P (Some x) each = each x refl

pub shared_known : (plan : Plan) (seen : List Seen) (chosen : Option Candidate) → All (IsSeen plan) seen →
    chosen ≡ choice (standing_of_candidate plan) (map candidate_of_seen (fit seen)) →
    IfSome chosen (λ one. one.peer < length plan.peers)
shared_known plan seen chosen all is =
    if_some (λ (one : Candidate). one.peer < length plan.peers) chosen (λ one found.
    choice-All (λ (one : Candidate). one.peer < length plan.peers) (standing_of_candidate plan) (map candidate_of_seen (fit seen)) one
    (all_known plan seen all) (sym is ∙ found))

pub some_made : {A B : Type 0} (f : A → B) (o : Option A) → is_some (option_map f o) ≡ is_some o
some_made f None = refl
some_made f (Some x) = refl
