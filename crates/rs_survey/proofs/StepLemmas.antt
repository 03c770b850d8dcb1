-- The step that a summary counts for a candidate is the one that its explanation names: for laws.rt.
use Rattle.std.proofs.Common.{◌≡◌, ◌∙◌, sym, ap, subst, refl, ℕ, Bool, true, false, cond, ◌&&◌, List, [], ◌∷◌, ◌++◌, map, inl, inr}
use Rattle.std.specs.Prelude.{Option, None, Some}
use Rattle.std.specs.List.{list_any}
use Rattle.std.specs.Option.{option_map}
use Rattle.std.proofs.lemmas.Bool.{cases_Bool, cond_both}
use Rattle.rs_update.specs.IpPrefix.{IpPrefix}
use Rattle.rs_choice.specs.declared.candidate.Standing.{Standing}
use Rattle.rs_choice.specs.declared.step.Step.{Step}
use Rattle.rs_choice.specs.Decision.{SentRoute, beats, decision_steps, remaining, standing_of, unbeaten}
use Rattle.rs_choice.specs.Acceptance.{accepts}
use Rattle.rs_choice.specs.Eligibility.{is_eligible}
use Rattle.rs_choice.specs.Naturality.{list_any-map, unbeaten-map}
use Rattle.rs_choice.specs.Plan.{Plan}
use Rattle.rs_choice.specs.Policy.{is_permitted}
use Rattle.rs_choice.proofs.Eliminations.{remaining_among, unbeaten_means}
use Rattle.rs_choice.proofs.Members.{Mem, contains-mem, list_any-none, none-list_any}
use Rattle.rs_table.specs.Content.{TablesContent}
use Rattle.rs_table.specs.Table.{candidates_of, route_from}
use Rattle.rs_explain.specs.declared.contender.Contender.{Contender}
use Rattle.rs_explain.specs.declared.explanation.Explanation.TheVariants.{Lost}
use Rattle.rs_explain.specs.declared.removal.Removal.{Removal}
use Rattle.rs_explain.specs.Contenders.{contender_if, contender_of, contenders_of, standing_in}
use Rattle.rs_explain.specs.Explanations.{IsExplanation}
use Rattle.rs_explain.proofs.BeatenLemmas.{stands}
use Rattle.rs_explain.proofs.BestLemmas.{best_contender}
use Rattle.rs_explain.proofs.RemovalLemmas.{beaten_by}
use Rattle.rs_explain.proofs.RivalLemmas.{loss_of, mem-find}
use Rattle.rs_survey.specs.Summary.{removed_at}

-- one that reaches a step, and that a member of the set there beats, is removed at it
removed_after : {M : Type 0} (standing : M → Standing) (before : List Step) (step : Step) (after : List Step) (set : List M) (one : M) →
    Mem (remaining standing before set) one →
    list_any (λ other. beats step (standing other) (standing one)) (remaining standing before set) ≡ true →
    removed_at standing (before ++ step ∷ after) set one ≡ Some step
unfolding removed_at remaining
removed_after standing [] step after set one there beaten = rw beaten refl
removed_after {M = M} standing (first ∷ before) step after set one there beaten =
    let inside = remaining_among standing before (unbeaten standing first set) one there in
    let safe = unbeaten_means standing first set one inside in
    let none : list_any (λ (other : M). beats first (standing other) (standing one)) set ≡ false =
    none-list_any (λ other. beats first (standing other) (standing one)) set safe.1 in
    rw none (removed_after standing before step after (unbeaten standing first set) one there beaten)

-- it looks at standings alone
removed_at-map : {A B : Type 0} (f : A → B) (standing : B → Standing) (steps : List Step) (set : List A) (one : A) →
    removed_at standing steps (map f set) (f one) ≡ removed_at (λ x. standing (f x)) steps set one
unfolding removed_at
removed_at-map f standing [] set one = refl
removed_at-map {A = A} {B = B} f standing (step ∷ later) set one =
    let beaten = list_any-map f (λ other. beats step (standing other) (standing (f one))) set in
    let rest : removed_at standing later (unbeaten standing step (map f set)) (f one)
    ≡ removed_at (λ x. standing (f x)) later (unbeaten (λ x. standing (f x)) step set) one =
    ap (λ (left : List B). removed_at standing later left (f one)) (unbeaten-map f standing step set)
    ∙ removed_at-map f standing later (unbeaten (λ x. standing (f x)) step set) one in
    λ i. cond (beaten i) (Some step) (rest i)

any-mem : {M : Type 0} (p : M → Bool) (set : List M) (one : M) → Mem set one → p one ≡ true → list_any p set ≡ true
any-mem p set one there passes = elim (cases_Bool (list_any p set)) [
  | inl some ↦ some
  | inr none ↦ absurd (cc (list_any-none p set one none there, passes))
]

-- a candidate is made of its peer's route
made_of_route : (plan : Plan) (client : ℕ) (prefix : IpPrefix) (left : Option SentRoute) (one : Contender)
    → contender_if plan client prefix left ≡ Some one →
    (route : SentRoute) × (left ≡ Some route) × (contender_of plan route ≡ one)
made_of_route plan client prefix None one is = absurd (cc is)
made_of_route plan client prefix (Some route) one is =
    cond_both (is_eligible plan route.peer route.attributes && (accepts plan route.peer prefix route.attributes
    && is_permitted plan client route.peer route.attributes))
    (Some (contender_of plan route)) None
    (λ found. found ≡ Some one → (route' : SentRoute) × (Some route ≡ Some route') × (contender_of plan route' ≡ one))
    (λ passes found. (route, refl, cc found))
    (λ fails found. absurd (cc found))
    is

pub counted_step : (tables : TablesContent) (client peer : ℕ) (prefix : IpPrefix) (removal : Removal) →
    IsExplanation tables client peer prefix (Lost removal) →
    (route : SentRoute) × (route_from tables prefix peer ≡ Some route)
    × (removed_at (standing_of tables.plan) decision_steps (candidates_of tables client prefix) route ≡ Some removal.step)
counted_step tables client peer prefix removal is =
    let loss = loss_of tables client peer prefix removal is in
    let steps = loss.steps in
    let set = contenders_of tables client prefix in
    let best = contender_of tables.plan loss.best in
    let reached = remaining standing_in steps.before set in
    let stood = stands standing_in set best (best_contender tables client prefix
    ∙ ap (option_map (contender_of tables.plan)) loss.gets) steps.before removal.step steps.after steps.order in
    let found = mem-find (beaten_by removal.step loss.loser) (best ∷ reached) removal.rival steps.rival in
    let rival : Mem reached removal.rival =
    elim found.0 [ inl same ↦ subst (Mem reached) same stood.inside | inr later ↦ later ] in
    let removed : removed_at standing_in decision_steps set loss.loser ≡ Some removal.step =
    ap (λ (all : List Step). removed_at standing_in all set loss.loser) steps.order
    ∙ removed_after standing_in steps.before removal.step steps.after set loss.loser (contains-mem reached loss.loser steps.reaches)
    (any-mem (beaten_by removal.step loss.loser) reached removal.rival rival found.1) in
    let made = made_of_route tables.plan client prefix (route_from tables prefix peer) loss.loser loss.is_candidate in (
      made.0,
      made.1,
      sym (removed_at-map (contender_of tables.plan) standing_in decision_steps (candidates_of tables client prefix) made.0)
          ∙ ap (removed_at standing_in decision_steps set) made.2 ∙ removed,
    )
