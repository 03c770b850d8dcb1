-- The rival that is named is a candidate, and beats the loser.
use Rattle.std.proofs.Common.{◌≡◌, ◌∙◌, sym, ap, ℕ, Bool, true, false, List, [], ◌∷◌, inl, inr}
use Rattle.std.specs.Prelude.{Option, None, Some, MatchOption, IsTrue, ◌==◌, if◌then◌else◌}
use Rattle.std.specs.List.{find, Contains}
use Rattle.std.specs.Option.{option_map, option_or}
use Rattle.std.specs.FinMap.{get}
use Rattle.std.proofs.lemmas.Bool.{cond_both}
use Rattle.rs_update.specs.IpPrefix.{IpPrefix}
use Rattle.rs_choice.specs.declared.step.Step.{Step}
use Rattle.rs_choice.specs.Decision.{beats, remaining, SentRoute}
use Rattle.rs_choice.specs.Naturality.{choice-Contains}
use Rattle.rs_table.specs.Left.{RouteLeft}
use Rattle.rs_table.specs.Content.{TablesContent, rib_of}
use Rattle.rs_table.specs.Table.{sent_by, candidates_of, best_of}
use Rattle.rs_explain.specs.declared.condition.Condition.{Condition}
use Rattle.rs_explain.specs.declared.filtered_by.FilteredBy.{FilteredBy}
use Rattle.rs_explain.specs.declared.refusal.Refusal.{Refusal}
use Rattle.rs_explain.specs.declared.removal.Removal.{Removal}
use Rattle.rs_explain.specs.declared.explanation.Explanation.TheVariants.{Own, Ineligible, Filtered, Refused, Lost}
use Rattle.rs_explain.specs.Contenders.{contender_of, contenders_of, standing_in}
use Rattle.rs_explain.specs.Explanations.{reason_of, IsLoss, IsExplanation}
use Rattle.rs_explain.specs.Filtered.{failed_filter}
use Rattle.rs_explain.specs.Reasons.{failed_condition, refusal_of}
use Rattle.rs_choice.proofs.Eliminations.{remaining_among}
use Rattle.rs_choice.proofs.Members.{Mem, contains-mem, mem-contains, mem_of-map}
use Rattle.rs_explain.proofs.RemovalLemmas.{beaten_by}
use Rattle.rs_explain.proofs.BestLemmas.{best_contender}

-- what is found is a member that passes
pub mem-find : {M : Type 0} (p : M → Bool) (xs : List M) (x : M) → find p xs ≡ Some x → Mem xs x × (p x ≡ true)
mem-find p [] x found = absurd (cc (found))
mem-find p (y ∷ ys) x found = cond_both (p y) (Some y) (find p ys) (λ found. found ≡ Some x → Mem (y ∷ ys) x × (p x ≡ true))
    (λ passes here. let same : y ≡ x = cc (here) in (inl same, ap p (sym same) ∙ passes))
    (λ fails later. let found = mem-find p ys x later in (inr found.0, found.1))
    found

loss_reasons : (decided : Type 0) (removal : Removal) (f : Option Condition) (t : Option FilteredBy) (r : Option Refusal) →
    MatchOption (option_or (option_map (λ condition. Ineligible condition) f)
    (option_or (option_map (λ failed. Filtered failed) t) (option_map (λ refusal. Refused refusal) r))) decided
    (λ reason. Lost removal ≡ reason) → decided
loss_reasons decided removal (Some condition) t r h = absurd (cc (h))
loss_reasons decided removal None (Some failed) r h = absurd (cc (h))
loss_reasons decided removal None None (Some refusal) h = absurd (cc (h))
loss_reasons decided removal None None None h = h

module _ (tables : TablesContent) (client peer : ℕ) (prefix : IpPrefix) (removal : Removal) where
  loss_left : (left : Option RouteLeft) → MatchOption (reason_of tables.plan client peer prefix (option_map (sent_by peer) left))
      (IsLoss tables client peer prefix removal) (λ reason. Lost removal ≡ reason) →
      IsLoss tables client peer prefix removal
  loss_left None h = absurd (cc (h))
  loss_left (Some route) h =
      loss_reasons (IsLoss tables client peer prefix removal) removal (failed_condition tables.plan peer route.attributes)
      (failed_filter tables.plan peer prefix route.attributes) (refusal_of tables.plan client peer route.attributes) h

  loss_if : (own : Bool) → MatchOption (if own then Some Own
      else reason_of tables.plan client peer prefix (option_map (sent_by peer) (get (rib_of tables peer).routes prefix)))
      (IsLoss tables client peer prefix removal) (λ reason. Lost removal ≡ reason) → IsLoss tables client peer prefix removal
  loss_if true h = absurd (cc (h))
  loss_if false h = loss_left (get (rib_of tables peer).routes prefix) h

  pub loss_of : IsExplanation tables client peer prefix (Lost removal) → IsLoss tables client peer prefix removal
  loss_of h = loss_if (client == peer) h

  rival_among : (before : List Step) (best : SentRoute) → best_of tables client prefix ≡ Some best →
      Mem (contender_of tables.plan best ∷ remaining standing_in before (contenders_of tables client prefix)) removal.rival
      → Mem (contenders_of tables client prefix) removal.rival
  rival_among before best is (inl same) =
      rw (← same) (contains-mem (contenders_of tables client prefix) (contender_of tables.plan best)
      (choice-Contains standing_in (contenders_of tables client prefix) (contender_of tables.plan best)
      (best_contender tables client prefix ∙ ap (option_map (contender_of tables.plan)) is)))
  rival_among before best is (inr later) = remaining_among standing_in before (contenders_of tables client prefix) removal.rival later

  pub rival_is_candidate : IsExplanation tables client peer prefix (Lost removal) →
      ((route : SentRoute) × Contains (candidates_of tables client prefix) route × (contender_of tables.plan route ≡ removal.rival))
      × IsTrue (beats removal.step removal.rival.standing removal.loser.standing)
  rival_is_candidate h =
      let loss = loss_of h in
      let steps = loss.steps in
      let found = mem-find (beaten_by removal.step loss.loser)
      (contender_of tables.plan loss.best ∷ remaining standing_in steps.before (contenders_of tables client prefix))
      removal.rival steps.rival in
      let among : Mem (contenders_of tables client prefix) removal.rival = rival_among steps.before loss.best loss.gets found.0 in
      let made = mem_of-map (contender_of tables.plan) (candidates_of tables client prefix) removal.rival among in
      let removed = steps.removed in
      ((made.0, mem-contains (candidates_of tables client prefix) made.0 made.1, made.2), rw removed found.1)
