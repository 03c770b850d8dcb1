-- Explanations and answers.
use Rattle.std.proofs.Common.{◌≡◌, ap, refl, ℕ, ◌<◌, ◌==◌, Bool, true, false, not, cond, [], ◌∷◌, length, inl, inr}
use Rattle.std.specs.Prelude.{Option, None, Some, MatchOption, is_none, ◌&&◌, ◌||◌}
use Rattle.std.specs.Option.{option_map, option_or, option_and_then}
use Rattle.std.specs.FinMap.{get}
use Rattle.std.proofs.lemmas.Bool.{cases_Bool}
use Rattle.rs_update.specs.IpPrefix.{IpPrefix}
use Rattle.rs_update.specs.AsPath.{holds_as_in}
use Rattle.rs_update.specs.Community.{has_community_in}
use Rattle.rs_update.specs.PathAttributes.{PathAttributes}
use Rattle.rs_choice.specs.Acceptance.{accepts}
use Rattle.rs_choice.specs.Eligibility.{is_eligible, is_on_exchange}
use Rattle.rs_choice.specs.Plan.{Plan}
use Rattle.rs_choice.specs.Policy.{has_large, is_permitted}
use Rattle.rs_choice.specs.Refusal.{refuses}
use Rattle.rs_table.specs.declared.why.Why.{Why}
use Rattle.rs_table.specs.declared.why.Why.TheVariants as answers
use Rattle.rs_table.specs.Left.{RouteLeft}
use Rattle.rs_table.specs.Content.{TablesContent, rib_of}
use Rattle.rs_table.specs.Table.{sent_by, best_of, is_from, why_left, why_of}
use Rattle.rs_explain.specs.declared.condition.Condition.{Condition}
use Rattle.rs_explain.specs.declared.filtered_by.FilteredBy.{FilteredBy}
use Rattle.rs_explain.specs.declared.refusal.Refusal.{Refusal}
use Rattle.rs_explain.specs.declared.explanation.Explanation.{Explanation}
use Rattle.rs_explain.specs.declared.explanation.Explanation.TheVariants.{Own, Absent, Ineligible, Filtered, Refused, Best, Lost}
use Rattle.rs_explain.specs.Filtered.{failed_filter}
use Rattle.rs_explain.specs.Reasons.{first_answer, failed_condition, refusal_of}
use Rattle.rs_explain.specs.Explanations.{answer_of, reason_of, IsDecided, IsExplanation}
use Rattle.rs_choice.proofs.Members.{some_at}
use Rattle.rs_explain.proofs.FilteredLemmas.{accepted_unless}

by_conditions : {C : Type 0} (h n o : Bool) (a b c : C) → (not h && (not n && o))
    ≡ is_none (first_answer ((h, a) ∷ (n, b) ∷ (not o, c) ∷ []))
by_conditions true n o a b c = refl
by_conditions false true o a b c = refl
by_conditions false false true a b c = refl
by_conditions false false false a b c = refl

-- a route is eligible where it fails no condition
pub eligible_unless : (plan : Plan) (number : ℕ) (attributes : PathAttributes) → number < length plan.peers →
    is_eligible plan number attributes ≡ is_none (failed_condition plan number attributes)
eligible_unless plan number attributes known =
    let sender = some_at plan.peers number known in
    rw sender.1 (by_conditions (holds_as_in attributes.path plan.local.asn) (attributes.next_hop == plan.local.address)
    (is_on_exchange plan.local.subnet sender.0.address attributes.next_hop) _ _ _)

by_rules : {C : Type 0} (n a l b m c k : Bool) (v w x y z : C) →
    cond n false (cond (a || l) false (cond (b || m) true (cond (c || k) false true)))
    ≡ is_none (option_and_then (λ (r : Option C). r) (first_answer ((n, Some v) ∷ (a, Some w) ∷ (l, Some x) ∷ (b, None)
    ∷ (m, None) ∷ (c, Some y) ∷ (k, Some z) ∷ [])))
by_rules true a l b m c k v w x y z = refl
by_rules false true l b m c k v w x y z = refl
by_rules false false true b m c k v w x y z = refl
by_rules false false false true m c k v w x y z = refl
by_rules false false false false true c k v w x y z = refl
by_rules false false false false false true k v w x y z = refl
by_rules false false false false false false true v w x y z = refl
by_rules false false false false false false false v w x y z = refl

-- a route of another peer is permitted where no rule refuses it
pub permitted_unless : (plan : Plan) (client number : ℕ) (attributes : PathAttributes) → client < length plan.peers
    → number < length plan.peers →
    (client == number) ≡ false → is_permitted plan client number attributes ≡ is_none (refusal_of plan client number attributes)
permitted_unless plan client number attributes client_known known differ =
    let receiver = some_at plan.peers client client_known in
    let sender = some_at plan.peers number known in
    rw (receiver.1, sender.1, differ) (by_rules (refuses receiver.0 sender.0) (has_community_in attributes.communities 0 receiver.0.asn)
    (has_large plan attributes 0 receiver.0.asn) (has_community_in attributes.communities plan.local.asn receiver.0.asn)
    (has_large plan attributes 1 receiver.0.asn) (has_community_in attributes.communities 0 plan.local.asn)
    (has_large plan attributes 0 0) _ _ _ _ _)

agree_left : (explanation : Explanation) (decided : Type 0) (otherwise : Why) (f : Option Condition) (t : Option FilteredBy)
    (r : Option Refusal) (eligible accepted permitted : Bool) →
    eligible ≡ is_none f → accepted ≡ is_none t → permitted ≡ is_none r → (decided → answer_of explanation ≡ otherwise) →
    MatchOption (option_or (option_map (λ condition. Ineligible condition) f)
    (option_or (option_map (λ failed. Filtered failed) t) (option_map (λ refusal. Refused refusal) r))) decided
    (λ reason. explanation ≡ reason) →
    answer_of explanation ≡ cond (not eligible) answers.Ineligible
    (cond (not accepted) answers.Filtered (cond (not permitted) answers.Refused otherwise))
agree_left explanation decided otherwise (Some condition) t r eligible accepted permitted e a p says h = rw e (ap answer_of h)
agree_left explanation decided otherwise None (Some failed) r eligible accepted permitted e a p says h = rw (e, a) (ap answer_of h)
agree_left explanation decided otherwise None None (Some refusal) eligible accepted permitted e a p says h = rw (e, a, p) (ap answer_of h)
agree_left explanation decided otherwise None None None eligible accepted permitted e a p says h = rw (e, a, p) (says h)

agree_decided : (tables : TablesContent) (client peer : ℕ) (prefix : IpPrefix) (explanation : Explanation)
    → IsDecided tables client peer prefix explanation →
    answer_of explanation ≡ cond (is_from peer (best_of tables client prefix)) answers.Best answers.Lost
agree_decided tables client peer prefix Own h = absurd h
agree_decided tables client peer prefix Absent h = absurd h
agree_decided tables client peer prefix (Ineligible condition) h = absurd h
agree_decided tables client peer prefix (Filtered failed) h = absurd h
agree_decided tables client peer prefix (Refused refusal) h = absurd h
agree_decided tables client peer prefix (Best beaten) h = rw h.0 refl
agree_decided tables client peer prefix (Lost removal) h = let gets = h.gets in let another = h.another in rw (gets, another) refl

module _ (tables : TablesContent) (client peer : ℕ) (prefix : IpPrefix) (explanation : Explanation)
    (client_known : client < length tables.plan.peers) (known : peer < length tables.plan.peers) where
  agree_other : (left : Option RouteLeft) → (client == peer) ≡ false →
      MatchOption (reason_of tables.plan client peer prefix (option_map (sent_by peer) left)) (IsDecided tables client peer prefix explanation)
      (λ reason. explanation ≡ reason) →
      answer_of explanation ≡ why_left tables client peer prefix left
  agree_other None differ h = ap answer_of h
  agree_other (Some route) differ h =
      agree_left explanation (IsDecided tables client peer prefix explanation)
      (cond (is_from peer (best_of tables client prefix)) answers.Best answers.Lost)
      (failed_condition tables.plan peer route.attributes) (failed_filter tables.plan peer prefix route.attributes)
      (refusal_of tables.plan client peer route.attributes)
      (is_eligible tables.plan peer route.attributes) (accepts tables.plan peer prefix route.attributes)
      (is_permitted tables.plan client peer route.attributes)
      (eligible_unless tables.plan peer route.attributes known)
      (accepted_unless tables.plan peer prefix route.attributes)
      (permitted_unless tables.plan client peer route.attributes client_known known differ)
      (agree_decided tables client peer prefix explanation) h

  pub agrees : IsExplanation tables client peer prefix explanation → answer_of explanation ≡ why_of tables client peer prefix
  agrees h =
      elim (cases_Bool (client == peer)) [
        | inl same ↦ let own : explanation ≡ Own = rw same at h in rw same (ap answer_of own)
        | inr differ ↦ rw differ (agree_other (get (rib_of tables peer).routes prefix) differ (rw differ at h))
      ]
