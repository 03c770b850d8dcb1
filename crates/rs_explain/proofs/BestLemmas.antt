-- The candidate that a client gets: it is there where there is a candidate, and all steps leave no other one.
use Rattle.std.proofs.Common.{◌≡◌, ◌∙◌, sym, ap, subst, refl, ℕ, ◌<◌, List, [], length}
use Rattle.std.specs.Prelude.{Option, None, Some, IfSome}
use Rattle.std.specs.List.{All, Contains}
use Rattle.std.specs.Option.{option_map}
use Rattle.std.proofs.lemmas.List.Elements.{All-contains}
use Rattle.std.proofs.lemmas.Option.{slice_get_within}
use Rattle.rs_update.specs.IpPrefix.{IpPrefix}
use Rattle.rs_choice.specs.Decision.{SentRoute, choice, decision_steps, remaining}
use Rattle.rs_choice.specs.Laws.{ChoiceIsMember, PeersHaveOwnAddresses}
use Rattle.rs_choice.specs.Naturality.{choice-map, choice-All}
use Rattle.rs_choice.specs.Plan.{plan_fault}
use Rattle.rs_table.specs.declared.route.Route.{Route}
use Rattle.rs_table.specs.Content.{TablesContent}
use Rattle.rs_table.specs.RouteView.{sent_route_of}
use Rattle.rs_table.specs.Table.{candidates_of, best_of}
use Rattle.rs_explain.specs.declared.contender.Contender.{Contender}
use Rattle.rs_explain.specs.Contenders.{contender_of, contenders_of, standing_in, AreContenders, HasOwnAddress}
use Rattle.rs_choice.proofs.Eliminations.{choice_left, one_address, remaining_among, same_remaining}
use Rattle.rs_choice.proofs.Members.{Mem, contains-mem, mem-contains, mem_of-map}

-- the choice among the candidates is the route that the client gets
pub best_contender : (tables : TablesContent) (client : ℕ) (prefix : IpPrefix) →
    choice standing_in (contenders_of tables client prefix) ≡ option_map (contender_of tables.plan) (best_of tables client prefix)
best_contender tables client prefix = choice-map (contender_of tables.plan) standing_in (candidates_of tables client prefix)

pub best_address : (tables : TablesContent) (client : ℕ) (prefix : IpPrefix) (best : SentRoute)
    → All (HasOwnAddress tables.plan) (contenders_of tables client prefix) →
    best_of tables client prefix ≡ Some best → HasOwnAddress tables.plan (contender_of tables.plan best)
best_address tables client prefix best all is =
    choice-All (HasOwnAddress tables.plan) standing_in (contenders_of tables client prefix) (contender_of tables.plan best) all
    (best_contender tables client prefix ∙ ap (option_map (contender_of tables.plan)) is)

pub best_peer : (tables : TablesContent) (client : ℕ) (prefix : IpPrefix) (best : SentRoute)
    → All (HasOwnAddress tables.plan) (contenders_of tables client prefix) →
    best_of tables client prefix ≡ Some best → best.peer < length tables.plan.peers
best_peer tables client prefix best all is =
    let own = best_address tables client prefix best all is in
    slice_get_within tables.plan.peers best.peer own.0 own.1

pub best_known : (tables : TablesContent) (client : ℕ) (prefix : IpPrefix) (best : Option Route) (all : List Contender)
    → AreContenders tables client prefix all → option_map sent_route_of best ≡ best_of tables client prefix →
    IfSome best (λ one. one.peer < length tables.plan.peers)
best_known tables client prefix None all are is = tt
best_known tables client prefix (Some route) all are is =
    best_peer tables client prefix (sent_route_of route) (subst (All (HasOwnAddress tables.plan)) are.value are.addresses) (sym is)

-- what an option is made of
pub made_of : {A B : Type 0} (f : A → B) (o : Option A) (y : B) → option_map f o ≡ Some y → (x : A) × (o ≡ Some x) × (f x ≡ y)
made_of f None y is = absurd (cc is)
made_of f (Some x) y is = (x, refl, cc is)

-- a client that has a candidate gets one
pub some_best : ChoiceIsMember → (tables : TablesContent) (client : ℕ) (prefix : IpPrefix) (one : Contender) →
    Contains (contenders_of tables client prefix) one → best_of tables client prefix ≡ None → ⊥
some_best law tables client prefix one there none =
    let candidates = candidates_of tables client prefix in
    let found = mem_of-map (contender_of tables.plan) candidates one (contains-mem (contenders_of tables client prefix) one there) in
    let empty : candidates ≡ [] = rw none at (law tables.plan candidates) in
    subst (λ list. Mem list found.0) empty found.1

-- whom all steps leave have one address
same_address : (set : List Contender) (one other : Contender) →
    Mem (remaining standing_in decision_steps set) one → Mem (remaining standing_in decision_steps set) other
    → one.standing.address ≡ other.standing.address
same_address set one other is_one is_other =
    let same = same_remaining standing_in set in
    one_address standing_in set one other (same.to one is_one) (same.to other is_other)

-- whom all steps leave is the one that the client gets
pub left_is_best : PeersHaveOwnAddresses → (tables : TablesContent) (client : ℕ) (prefix : IpPrefix) (best : SentRoute) (one : Contender) →
    plan_fault tables.plan.local tables.plan.peers ≡ None → All (HasOwnAddress tables.plan) (contenders_of tables client prefix) →
    best_of tables client prefix ≡ Some best → Contains (remaining standing_in decision_steps (contenders_of tables client prefix)) one
    → best.peer ≡ one.peer
left_is_best law tables client prefix best one faultless all is left =
    let set = contenders_of tables client prefix in
    let is_left : Mem (remaining standing_in decision_steps set) one = contains-mem (remaining standing_in decision_steps set) one left in
    let best_left : Mem (remaining standing_in decision_steps set) (contender_of tables.plan best) =
    choice_left standing_in set (contender_of tables.plan best)
    (best_contender tables client prefix ∙ ap (option_map (contender_of tables.plan)) is) in
    let own_best = best_address tables client prefix best all is in
    let own_one : HasOwnAddress tables.plan one =
    All-contains (HasOwnAddress tables.plan) set one all
    (mem-contains set one (remaining_among standing_in decision_steps set one is_left)) in
    law tables.plan.local tables.plan.peers faultless best.peer one.peer own_best.0 own_one.0 own_best.1 own_one.1
    (sym own_best.2 ∙ same_address set (contender_of tables.plan best) one best_left is_left ∙ own_one.2)
