-- A route of another peer is explained by the reason why it is no candidate, or by what is decided: for explanation.rt.
use Rattle.std.proofs.Common.{◌≡◌, ◌∙◌, sym, ap, refl, ℕ, ◌<◌, ◌==◌, true, false, length}
use Rattle.std.specs.Prelude.{Option, None, Some, is_none}
use Rattle.std.specs.FinMap.{get}
use Rattle.std.specs.Option.{option_map, option_or}
use Rattle.rs_update.specs.IpPrefix.{IpPrefix}
use Rattle.rs_choice.specs.Decision.{SentRoute}
use Rattle.rs_choice.specs.Acceptance.{accepts}
use Rattle.rs_choice.specs.Eligibility.{is_eligible}
use Rattle.rs_choice.specs.Plan.{Plan}
use Rattle.rs_choice.specs.Policy.{is_permitted}
use Rattle.rs_table.specs.Content.{TablesContent, rib_of}
use Rattle.rs_table.specs.Table.{route_from}
use Rattle.rs_explain.specs.declared.condition.Condition.{Condition}
use Rattle.rs_explain.specs.declared.contender.Contender.{Contender}
use Rattle.rs_explain.specs.declared.explanation.Explanation.{Explanation}
use Rattle.rs_explain.specs.declared.explanation.Explanation.TheVariants.{Ineligible, Filtered, Refused}
use Rattle.rs_explain.specs.declared.filtered_by.FilteredBy.{FilteredBy}
use Rattle.rs_explain.specs.declared.refusal.Refusal.{Refusal}
use Rattle.rs_explain.specs.Contenders.{contender_from, contender_of}
use Rattle.rs_explain.specs.Explanations.{reason_before_decision, reason_of, IsDecided, IsExplanation}
use Rattle.rs_explain.specs.Filtered.{failed_filter}
use Rattle.rs_explain.specs.Reasons.{failed_condition, refusal_of}
use Rattle.rs_explain.proofs.AgreementLemmas.{eligible_unless, permitted_unless}
use Rattle.rs_explain.proofs.FilteredLemmas.{accepted_unless}
use Rattle.rs_explain.proofs.ContenderLemmas.{made_from, route_peer, some_permitted}

no_reasons : (f : Option Condition) (t : Option FilteredBy) (r : Option Refusal) →
    option_or (option_map (λ condition. Ineligible condition) f)
    (option_or (option_map (λ failed. Filtered failed) t) (option_map (λ refusal. Refused refusal) r)) ≡ None →
    (f ≡ None) × (t ≡ None) × (r ≡ None)
no_reasons None None None is = (refl, refl, refl)
no_reasons None None (Some refusal) is = absurd (cc is)
no_reasons None (Some failed) r is = absurd (cc is)
no_reasons (Some condition) t r is = absurd (cc is)

module _ (tables : TablesContent) (client peer : ℕ) (prefix : IpPrefix) where
  pub own_peer : (route : SentRoute) → Some route ≡ route_from tables prefix peer → route.peer ≡ peer
  own_peer route is = route_peer peer (get (rib_of tables peer).routes prefix) route is

  -- the reason, by the route that is found
  pub reason_is : (plan : Plan) (route : SentRoute) → plan ≡ tables.plan → (client == peer) ≡ false →
      Some route ≡ route_from tables prefix peer →
      reason_before_decision tables client peer prefix ≡ reason_of plan client route.peer prefix (Some route)
  reason_is plan route same differ is =
      rw differ (λ i. reason_of (sym same i) client (sym (own_peer route is) i) prefix (sym is i))

  pub by_reason : (explanation : Explanation) → reason_before_decision tables client peer prefix ≡ Some explanation →
      IsExplanation tables client peer prefix explanation
  by_reason explanation is = rw is refl

  pub by_decision : (explanation : Explanation) (one : ℕ) → reason_before_decision tables client peer prefix ≡ None → one ≡ peer →
      IsDecided tables client one prefix explanation → IsExplanation tables client peer prefix explanation
  by_decision explanation one none own decided = rw none (rw own at decided)

  -- a route that no reason keeps out is a candidate
  pub candidate_is : (plan : Plan) (route : SentRoute) (one : Contender) → client < length tables.plan.peers
      → peer < length tables.plan.peers →
      (client == peer) ≡ false → Some route ≡ route_from tables prefix peer → reason_before_decision tables client peer prefix ≡ None →
      plan ≡ tables.plan → one ≡ contender_of plan route → contender_from tables client prefix one.peer ≡ Some one
  candidate_is plan route one client_known known differ is none same made =
      let reasons = no_reasons (failed_condition tables.plan peer route.attributes) (failed_filter tables.plan peer prefix route.attributes)
      (refusal_of tables.plan client peer route.attributes) (ap (reason_of tables.plan client peer prefix) is ∙ rw differ at none) in
      let accepted : accepts tables.plan peer prefix route.attributes ≡ true =
      accepted_unless tables.plan peer prefix route.attributes ∙ ap is_none reasons.1 in
      let eligible : is_eligible tables.plan peer route.attributes ≡ true =
      eligible_unless tables.plan peer route.attributes known ∙ ap is_none reasons.0 in
      let permitted : is_permitted tables.plan client peer route.attributes ≡ true =
      permitted_unless tables.plan client peer route.attributes client_known known differ ∙ ap is_none reasons.2 in
      let found = some_permitted tables.plan client peer prefix (get (rib_of tables peer).routes prefix) route is eligible accepted permitted in
      made_from tables client prefix peer one (contender_of tables.plan route) (made ∙ ap (λ (plan : Plan). contender_of plan route) same)
      found.0 found.1
