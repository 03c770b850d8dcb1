-- What is found of a route to a client, case by case: for counting.rt.
use Rattle.std.proofs.Common.{◌≡◌, ◌≢◌, ◌∙◌, sym, ap, refl, arith, ℕ, ◌<◌, ◌==◌, Bool, true, false, cond, ◌||◌, ◌&&◌, not, List, [], ◌∷◌}
use Rattle.std.proofs.Common.{length}
use Rattle.std.specs.Prelude.{Option, None, Some, IfSome, is_some, slice_get}
use Rattle.std.specs.Option.{option_map, option_map_or, option_to_list}
use Rattle.std.proofs.lemmas.Bool.{ne_eqb}
use Rattle.std.proofs.lemmas.Bool.Decides.{nat_tests}
use Rattle.std.proofs.lemmas.Option.{slice_get_within}
use Rattle.rs_update.specs.PathAttributes.{PathAttributes}
use Rattle.rs_choice.specs.declared.step.Step.{Step}
use Rattle.rs_choice.specs.Clients.{candidates_among, chosen_for, eligible_among, is_sent_to}
use Rattle.rs_choice.specs.Decision.{SentRoute, decision_steps, standing_of}
use Rattle.rs_choice.specs.Naturality.{choice-Contains}
use Rattle.rs_choice.specs.Plan.{Peer, Plan}
use Rattle.rs_choice.specs.Policy.{is_permitted, is_permitted_from}
use Rattle.rs_choice.proofs.Members.{contains-mem, mem-filter}
use Rattle.rs_explain.specs.declared.contender.Contender.{Contender}
use Rattle.rs_explain.specs.Contenders.{contender_of}
use Rattle.rs_explain.specs.Reasons.{failed_condition, kind_of}
use Rattle.rs_table.specs.declared.route.Route.{Route}
use Rattle.rs_table.specs.RouteView.{sent_route_of}
use Rattle.rs_table.specs.Table.{is_from}
use Rattle.rs_survey.specs.declared.finding.Finding.TheVariants.{Refused, Lost, Best, Removed}
use Rattle.rs_survey.specs.declared.seen.Seen.{Seen}
use Rattle.rs_survey.specs.Seen.{IsSeen}
use Rattle.rs_survey.specs.Summary.{of_candidate, removed_at, to_client}

-- ---- the tests

pub differs : (m n : ℕ) → m ≢ n → (m == n) ≡ false
differs m n other = ne_eqb m n other

equals : (m n : ℕ) → m ≡ n → (m == n) ≡ true
equals m n same = grind (arith, nat_tests)

some-map : {A B : Type 0} (f : A → B) (o : Option A) → is_some (option_map f o) ≡ is_some o
some-map f None = refl
some-map f (Some x) = refl

pub failed_seen : (plan : Plan) (one : Seen) → IsSeen plan one →
    is_some (failed_condition plan one.route.peer one.route.attributes.now) ≡ is_some one.failed
failed_seen plan one is =
    sym (some-map kind_of (failed_condition plan one.route.peer one.route.attributes.now)) ∙ ap is_some (sym is.failed)

or_true : (x : Bool) → (x || true) ≡ true
or_true true = refl
or_true false = refl

-- ---- the cases

module _ (plan : Plan) (routes : List SentRoute) (client : ℕ) (route : SentRoute) where
  pub nothing_own : client ≡ route.peer → to_client plan routes client route ≡ []
  nothing_own own = rw (equals client route.peer own) refl

  pub nothing_ineligible : is_some (failed_condition plan route.peer route.attributes) ≡ true → to_client plan routes client route ≡ []
  nothing_ineligible fails = rw (fails, or_true (client == route.peer)) refl

  pub refused_is : (client == route.peer) ≡ false → is_some (failed_condition plan route.peer route.attributes) ≡ false →
      is_sent_to plan client route ≡ false → to_client plan routes client route ≡ Refused client route.peer ∷ []
  refused_is other passes refused =
      λ i. cond (other i || passes i) [] (cond (not (refused i)) (Refused client route.peer ∷ []) (of_candidate plan routes client route))

  pub candidate_is : (client == route.peer) ≡ false → is_some (failed_condition plan route.peer route.attributes) ≡ false →
      is_sent_to plan client route ≡ true → to_client plan routes client route ≡ of_candidate plan routes client route
  candidate_is other passes sent =
      λ i. cond (other i || passes i) [] (cond (not (sent i)) (Refused client route.peer ∷ []) (of_candidate plan routes client route))

  pub best_is : is_from route.peer (chosen_for plan client routes) ≡ true →
      of_candidate plan routes client route ≡ Best client route.peer ∷ []
  best_is best = rw best refl

  pub lost_is : (step : Option Step) → is_from route.peer (chosen_for plan client routes) ≡ false →
      step ≡ removed_at (standing_of plan) decision_steps (candidates_among plan client routes) route →
      of_candidate plan routes client route ≡ Lost client route.peer ∷ option_to_list (option_map (λ step. Removed step) step)
  lost_is step lost is =
      rw lost (ap (λ step. Lost client route.peer ∷ option_to_list (option_map (λ step. Removed step) step)) (sym is))

-- ---- the best one

from-contender : (plan : Plan) (peer : ℕ) (best : Option SentRoute) →
    option_map_or (λ one. one.peer == peer) (option_map (contender_of plan) best) false ≡ is_from peer best
from-contender plan peer None = refl
from-contender plan peer (Some route) = refl

pub is_best_from : (plan : Plan) (peer : ℕ) (best : Option SentRoute) (contender : Option Contender) (answer : Bool) →
    answer ≡ option_map_or (λ one. one.peer == peer) contender false → contender ≡ option_map (contender_of plan) best →
    answer ≡ is_from peer best
is_best_from plan peer best contender answer says is =
    says ∙ ap (λ (one : Option Contender). option_map_or (λ one. one.peer == peer) one false) is ∙ from-contender plan peer best

-- it is a known peer's
permitted_known : (plan : Plan) (client number : ℕ) (attributes : PathAttributes) → is_permitted plan client number attributes ≡ true →
    number < length plan.peers
permitted_known plan client number attributes permitted =
    by_peers (client == number) (slice_get plan.peers client) (slice_get plan.peers number) refl permitted
  where
    by_peers : (own : Bool) (one other : Option Peer) → slice_get plan.peers number ≡ other →
        (not own && option_map_or (λ receiver. option_map_or
        (λ sender. is_permitted_from plan receiver sender attributes) other false)
        one false) ≡ true → number < length plan.peers
    by_peers true one other at is = absurd (cc is)
    by_peers false None other at is = absurd (cc is)
    by_peers false (Some one) None at is = absurd (cc is)
    by_peers false (Some one) (Some other) at is = slice_get_within plan.peers number other at

pub best_known : (plan : Plan) (client : ℕ) (routes : List SentRoute) (best : SentRoute) → chosen_for plan client routes ≡ Some best →
    best.peer < length plan.peers
best_known plan client routes best is =
    let candidates = candidates_among plan client routes in
    let inside = contains-mem candidates best (choice-Contains (standing_of plan) candidates best is) in
    permitted_known plan client best.peer best.attributes (mem-filter (is_sent_to plan client) (eligible_among plan routes) best inside).1

pub best_peer_known : (plan : Plan) (client : ℕ) (routes : List SentRoute) (best : Option Route) →
    option_map sent_route_of best ≡ chosen_for plan client routes → IfSome best (λ one. one.peer < length plan.peers)
best_peer_known plan client routes None is = tt
best_peer_known plan client routes (Some route) is = best_known plan client routes (sent_route_of route) (sym is)
