-- A client's candidates, gone over one after another, without those that one before them outdoes: for `contenders` of clients.rt.
use Rattle.std.proofs.Common.{◌≡◌, ◌∙◌, sym, ap, subst, Bool, true, false, ◌⊎◌, inl, inr, List, [], ◌∷◌, ◌++◌, Option, Some, None, ℕ}
use Rattle.std.proofs.lemmas.Bool.{cases_Bool}
use Rattle.std.specs.Prelude.{slice_get}
use Rattle.std.proofs.lemmas.List.{append-nil, append_assoc}
use Rattle.std.proofs.lemmas.Option.{get_or_from_slice_get, slice_get_within}
use Rattle.rs_choice.specs.declared.held_route.HeldRoute.{HeldRoute}
use Rattle.rs_choice.specs.declared.candidate.Standing.{Standing}
use Rattle.rs_choice.specs.Candidacy.{is_candidate}
use Rattle.rs_choice.specs.Clients.{candidates_among, is_sent_to}
use Rattle.rs_choice.specs.Comparison.{Outdoes}
use Rattle.rs_choice.specs.Contenders.{Contends, HoldCandidates}
use Rattle.rs_choice.specs.Decision.{SentRoute, choice, standing_of}
use Rattle.rs_choice.specs.Eligibility.{is_eligible}
use Rattle.rs_choice.specs.Entrants.{chosen_of}
use Rattle.rs_choice.specs.Plan.{Plan}
use Rattle.rs_choice.proofs.clients.ChosenLemmas.{chosen_at}
use Rattle.rs_choice.proofs.decision.BehindLemmas.{candidates_with, no_candidate, outdone}
use Rattle.rs_choice.proofs.Members.{Mem, mem-append_left}

-- the last of some routes has a standing, where there is one
abbrev pub HasLast : Plan → List SentRoute → Option Standing → Type 0
HasLast plan some None = Unit {0}
HasLast plan some (Some standing) = (one : SentRoute) × Mem some one × (standing ≡ standing_of plan one)

-- the choice among two lists is the same, whatever comes after both
abbrev pub ChooseSame : Plan → List SentRoute → List SentRoute → Type 0
ChooseSame plan some others =
    (later : List SentRoute) → choice (standing_of plan) (some ++ later) ≡ choice (standing_of plan) (others ++ later)

module _ (plan : Plan) (client : ℕ) (routes : List SentRoute) (one : SentRoute) where
  abbrev is_fit : SentRoute → Bool
  is_fit sent = is_eligible plan sent.peer sent.attributes

  pub with_candidate : is_fit one ≡ true → is_sent_to plan client one ≡ true →
      candidates_among plan client (routes ++ one ∷ []) ≡ candidates_among plan client routes ++ one ∷ []
  with_candidate = candidates_with is_fit (is_sent_to plan client) routes [] one

  pub without_candidate : (is_fit one ≡ false) ⊎ (is_sent_to plan client one ≡ false)
      → candidates_among plan client (routes ++ one ∷ []) ≡ candidates_among plan client routes
  without_candidate fails =
      no_candidate is_fit (is_sent_to plan client) routes [] one fails ∙ ap (candidates_among plan client) (append-nil routes)

  module _ (some : List SentRoute) (same : ChooseSame plan some (candidates_among plan client routes)) where
    as_before : (is_fit one ≡ false) ⊎ (is_sent_to plan client one ≡ false)
        → ChooseSame plan some (candidates_among plan client (routes ++ one ∷ []))
    as_before fails later = same later ∙ sym (ap (λ list. choice (standing_of plan) (list ++ later)) (without_candidate fails))

    -- what a list with a candidate more is, whatever comes after it
    with_later : is_fit one ≡ true → is_sent_to plan client one ≡ true → (later : List SentRoute) →
        choice (standing_of plan) (some ++ one ∷ later) ≡ choice (standing_of plan)
        (candidates_among plan client (routes ++ one ∷ []) ++ later)
    with_later eligible permitted later =
        same (one ∷ later)
        ∙ sym (ap (choice (standing_of plan)) (append_assoc (candidates_among plan client routes) (one ∷ []) later))
        ∙ sym (ap (λ list. choice (standing_of plan) (list ++ later)) (with_candidate eligible permitted))

    -- a candidate is taken
    pub with_one : is_fit one ≡ true → is_sent_to plan client one ≡ true
        → ChooseSame plan (some ++ one ∷ []) (candidates_among plan client (routes ++ one ∷ []))
    with_one eligible permitted later =
        ap (choice (standing_of plan)) (append_assoc some (one ∷ []) later) ∙ with_later eligible permitted later

    -- one that the last one outdoes is left out, whether it is a candidate or not
    without_outdone : (other : SentRoute) → Mem some other → Outdoes (standing_of plan other) (standing_of plan one) →
        ChooseSame plan some (candidates_among plan client (routes ++ one ∷ []))
    without_outdone other member outdoes = elim (cases_Bool (is_fit one)) [
      | inr ineligible ↦ as_before (inl ineligible)
      | inl eligible ↦ elim (cases_Bool (is_sent_to plan client one)) [
        | inr refused ↦ as_before (inr refused)
        | inl permitted ↦ λ later.
            sym (outdone (standing_of plan) some later one other (mem-append_left some later other member) outdoes)
            ∙ with_later eligible permitted later
      ]
    ]

    -- one that doesn't contend is left out
    pub without_one : (last : Option Standing) → HasLast plan some last → Contends plan client one last None
        → ChooseSame plan some (candidates_among plan client (routes ++ one ∷ []))
    without_one last has (inl refused) = as_before (inr refused)
    without_one None has (inr outdone) = absurd outdone
    without_one (Some standing) has (inr outdoes) =
        without_outdone has.0 has.1 (rw has.2 at outdoes)

-- a route at one of the places among which candidates are may be a candidate
pub fit_at : (plan : Plan) (client : ℕ) (held : List HeldRoute) (places : List ℕ) → HoldCandidates plan client held places →
    (i place : ℕ) (one : HeldRoute) → slice_get places i ≡ Some place → slice_get held place ≡ Some one
    → is_candidate one.candidacy ≡ true
fit_at plan client held places among i place one at_places at =
    let chosen = chosen_of held places in
    let there : slice_get chosen i ≡ Some one = chosen_at held places among.within i place at_places ∙ at in
    subst (λ (one : HeldRoute). is_candidate one.candidacy ≡ true) (get_or_from_slice_get chosen i one one there)
    (among.fit i one (slice_get_within chosen i one there))
