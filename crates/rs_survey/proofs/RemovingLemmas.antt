-- The step that removes a candidate, by the best one alone: for removing.rt.
use Rattle.std.proofs.Common.{◌≡◌, ◌∙◌, sym, ap, refl, arith, ℕ, Bool, false, not, cond, ◌&&◌, List, [], ◌∷◌, map, inl, inr}
use Rattle.std.specs.Prelude.{filter, nat_lt, Option, None, Some, ◌==◌}
use Rattle.std.specs.List.{list_any}
use Rattle.std.proofs.Math.Bool.{and_comm}
use Rattle.std.proofs.lemmas.Bool.{and_left, and_right, cases_Bool}
use Rattle.std.specs.Option.{option_map}
use Rattle.std.proofs.lemmas.Bool.Decides.{nat_tests}
use Rattle.rs_choice.specs.declared.candidate.Standing.{Standing}
use Rattle.rs_choice.specs.declared.step.Step.TheVariants.{Preference, PathLength, Origin, Med, Identifier, Address}
use Rattle.rs_choice.specs.Clients.{candidates_among, chosen_for, eligible_among, is_sent_to}
use Rattle.rs_choice.specs.Decision.{SentRoute, beats, choice, decision_steps, remaining, standing_of, unbeaten}
use Rattle.rs_choice.specs.Eligibility.{is_eligible}
use Rattle.rs_choice.specs.Laws.{ChoiceIsMember}
use Rattle.rs_choice.specs.Naturality.{list_any-map}
use Rattle.rs_choice.specs.Plan.{Plan}
use Rattle.rs_choice.proofs.Members.{none-list_any}
use Rattle.rs_explain.proofs.BeatenLemmas.{beaten_by_best, reaching, stands}
use Rattle.rs_survey.specs.declared.seen.Seen.{Seen}
use Rattle.rs_survey.specs.Seen.{keeps_out, sent_of_seen, step_by}
use Rattle.rs_survey.specs.Summary.{removed_at}

-- ---- the six steps

any-filter : {M : Type 0} (p q : M → Bool) (xs : List M) → list_any p (filter q xs) ≡ list_any (λ x. q x && p x) xs
any-filter p q [] = refl
any-filter p q (x ∷ xs) = elim (cases_Bool (q x)) [
  | inl kept ↦ rw kept (rw (any-filter p q xs) refl)
  | inr dropped ↦ rw dropped (any-filter p q xs)
]

module _ (plan : Plan) (set : List SentRoute) (best : SentRoute) (is : choice (standing_of plan) set ≡ Some best) where
  by_steps : (one : SentRoute) → removed_at (standing_of plan) decision_steps set one
      ≡ step_by (standing_of plan best) (standing_of plan one)
      (list_any (λ other. beats Med (standing_of plan other) (standing_of plan one))
      (remaining (standing_of plan) (Preference ∷ PathLength ∷ Origin ∷ []) set))
  unfolding removed_at remaining
  by_steps one =
      let st = standing_of plan in
      let first = unbeaten st Preference set in
      let second = unbeaten st PathLength first in
      let third = unbeaten st Origin second in
      let fourth = unbeaten st Med third in
      let fifth = unbeaten st Identifier fourth in
      let at_first = beaten_by_best st Preference set best one refl
      (stands st set best is [] Preference (PathLength ∷ Origin ∷ Med ∷ Identifier ∷ Address ∷ []) refl) in
      let at_second = beaten_by_best st PathLength first best one refl
      (stands st set best is (Preference ∷ []) PathLength (Origin ∷ Med ∷ Identifier ∷ Address ∷ []) refl) in
      let at_third = beaten_by_best st Origin second best one refl
      (stands st set best is (Preference ∷ PathLength ∷ []) Origin (Med ∷ Identifier ∷ Address ∷ []) refl) in
      let at_fifth = beaten_by_best st Identifier fourth best one refl
      (stands st set best is (Preference ∷ PathLength ∷ Origin ∷ Med ∷ []) Identifier (Address ∷ []) refl) in
      let at_sixth = beaten_by_best st Address fifth best one refl
      (stands st set best is (Preference ∷ PathLength ∷ Origin ∷ Med ∷ Identifier ∷ []) Address [] refl) in
      λ i. cond (at_first i) (Some Preference) (cond (at_second i) (Some PathLength) (cond (at_third i) (Some Origin)
      (cond (list_any (λ other. beats Med (st other) (st one)) third) (Some Med)
      (cond (at_fifth i) (Some Identifier) (cond (at_sixth i) (Some Address) None)))))

-- who keeps a candidate out by MED, of all routes on the prefix
kept_out : (plan : Plan) (client : ℕ) (seen : List Seen) (best one : SentRoute) →
    chosen_for plan client (map sent_of_seen seen) ≡ Some best →
    list_any (λ other. beats Med (standing_of plan other) (standing_of plan one))
    (remaining (standing_of plan) (Preference ∷ PathLength ∷ Origin ∷ []) (candidates_among plan client (map sent_of_seen seen)))
    ≡ list_any (λ other. keeps_out plan client (standing_of plan best) (standing_of plan one) (sent_of_seen other)) seen
kept_out plan client seen best one is =
    let routes = map sent_of_seen seen in
    let set = candidates_among plan client routes in
    let st = standing_of plan in
    let at_first = λ (other : SentRoute). not (beats Preference (st best) (st other)) in
    let at_second = λ (other : SentRoute). not (beats PathLength (st best) (st other)) in
    let at_third = λ (other : SentRoute). not (beats Origin (st best) (st other)) in
    let by_med = λ (other : SentRoute). beats Med (st other) (st one) in
    let late = λ (other : SentRoute). at_first other && (at_second other && (at_third other && by_med other)) in
    let fit = λ (other : SentRoute). is_eligible plan other.peer other.attributes in
    let sent = is_sent_to plan client in
    ap (list_any by_med) (reaching st set best is)
    ∙ any-filter by_med at_third (filter at_second (filter at_first set))
    ∙ any-filter (λ other. at_third other && by_med other) at_second (filter at_first set)
    ∙ any-filter (λ other. at_second other && (at_third other && by_med other)) at_first set
    ∙ any-filter late sent (eligible_among plan routes)
    ∙ any-filter (λ other. sent other && late other) fit routes
    ∙ (λ i. list_any (λ other. fit other && and_comm (sent other) (late other) i) routes)
    ∙ list_any-map sent_of_seen (λ other. fit other && (late other && sent other)) seen

pub step_is : (plan : Plan) (client : ℕ) (seen : List Seen) (best one : SentRoute) →
    chosen_for plan client (map sent_of_seen seen) ≡ Some best →
    step_by (standing_of plan best) (standing_of plan one)
    (list_any (λ other. keeps_out plan client (standing_of plan best) (standing_of plan one) (sent_of_seen other)) seen)
    ≡ removed_at (standing_of plan) decision_steps (candidates_among plan client (map sent_of_seen seen)) one
unfolding choice
step_is plan client seen best one is =
    sym (by_steps plan (candidates_among plan client (map sent_of_seen seen)) best is one
    ∙ ap (step_by (standing_of plan best) (standing_of plan one)) (kept_out plan client seen best one is))

-- where the client gets none there is no candidate
none_of_none : {M : Type 0} (standing : M → Standing) (one : M) → removed_at standing decision_steps [] one ≡ None
unfolding removed_at unbeaten
none_of_none standing one = refl

pub none_removed : ChoiceIsMember → (plan : Plan) (client : ℕ) (routes : List SentRoute) (one : SentRoute) →
    chosen_for plan client routes ≡ None →
    None ≡ removed_at (standing_of plan) decision_steps (candidates_among plan client routes) one
none_removed law plan client routes one none =
    let set = candidates_among plan client routes in
    let empty : set ≡ [] = rw none at (law plan set) in
    sym (ap (λ (set : List SentRoute). removed_at (standing_of plan) decision_steps set one) empty ∙ none_of_none (standing_of plan) one)

-- what an option is made of
pub made_of : {A B : Type 0} (f : A → B) (o : Option A) (y : B) → Some y ≡ option_map f o → (x : A) × (o ≡ Some x) × (y ≡ f x)
made_of f None y is = absurd (cc is)
made_of f (Some x) y is = (x, refl, cc is)

pub made_of_none : {A B : Type 0} (f : A → B) (o : Option A) → None ≡ option_map f o → o ≡ None
made_of_none f None is = refl
made_of_none f (Some x) is = absurd (cc is)

-- a MED of 0 is not beaten
lt_zero : (a b : ℕ) → b ≡ 0 → nat_lt a b ≡ false
lt_zero a b none = grind (arith, nat_tests)

pub never_kept_out : (plan : Plan) (client : ℕ) (best one : Standing) (seen : List Seen) → one.med ≡ 0 →
    false ≡ list_any (λ other. keeps_out plan client best one (sent_of_seen other)) seen
never_kept_out plan client best one seen none =
    sym (none-list_any (λ other. keeps_out plan client best one (sent_of_seen other)) seen (λ other there.
    let other = sent_of_seen other in
    let st = standing_of plan other in
    let by_med : beats Med st one ≡ false = and_right (st.neighbour == one.neighbour) (nat_lt st.med one.med)
    (lt_zero st.med one.med none) in
    and_right (is_eligible plan other.peer other.attributes) _ (and_left _ (is_sent_to plan client other)
    (and_right (not (beats Preference best st)) _ (and_right (not (beats PathLength best st)) _
    (and_right (not (beats Origin best st)) (beats Med st one) by_med))))))
