-- Members of lists that are filtered, and the peer of the route that a client gets: for `iter_rows` of listing.rt by KnownLemmas, and
-- StoredLemmas.
use Rattle.std.proofs.Common.{◌≡◌, ℕ, ◌+◌, ◌<◌, Bool, true, false, cond, List, [], ◌∷◌, length, filter, Option, Some, None, All, refl}
use Rattle.std.proofs.Common.{arith}
use Rattle.std.specs.List.{cons_option, enumerate_from, filter_map, AllByRecursion}
use Rattle.std.specs.Option.{option_map}
use Rattle.std.specs.FinMap.{get}
use Rattle.std.proofs.lemmas.List.Elements.{All-cons}
use Rattle.rs_types.specs.IpPrefix.{IpPrefix}
use Rattle.rs_choice.specs.Clients.{is_sent_to}
use Rattle.rs_choice.specs.Decision.{standing_of, SentRoute}
use Rattle.rs_choice.specs.Naturality.{choice-All}
use Rattle.rs_choice.specs.Acceptance.{accepts}
use Rattle.rs_choice.specs.Eligibility.{is_eligible}
use Rattle.rs_table.specs.Left.{RouteLeft}
use Rattle.rs_table.specs.Content.{RibContent, TablesContent}
use Rattle.rs_table.specs.Table.{sent_by, candidates_of, best_of, routes_on}

pub filter_none : {X : Type 0} (test : X → Bool) → ((x : X) → test x ≡ false) → (xs : List X) → filter test xs ≡ []
filter_none test none [] = refl
filter_none test none (x ∷ xs) = rw (none x) (filter_none test none xs)

pub filter_keeps : {X : Type 0} (P : X → Type 0) (test : X → Bool) (xs : List X) → AllByRecursion P xs → AllByRecursion P (filter test xs)
filter_keeps P test [] all = tt
filter_keeps P test (x ∷ xs) all =
    elim (test x) as (λ b. AllByRecursion P (cond b (x ∷ filter test xs) (filter test xs))) [
      | true ↦ (all.0, filter_keeps P test xs all.1)
      | false ↦ filter_keeps P test xs all.1
    ]

pub all_places : {X : Type 0} (P : X → Type 0) (xs : List X) → AllByRecursion P xs → All P xs
all_places P [] all = λ k d below. absurd (omega arith)
all_places P (x ∷ xs) all = All-cons P x xs all.0 (all_places P xs all.1)

-- the routes that peers have left on a prefix are those of peers that there are
module _ (prefix : IpPrefix) (count : ℕ) where
  abbrev IsOfOne : SentRoute → Type 0
  IsOfOne route = route.peer < count

  abbrev routes_from_one : ℕ → List RibContent → List SentRoute
  routes_from_one first ribs = filter_map (λ (peer, rib). option_map (sent_by peer) (get rib.routes prefix)) (enumerate_from first ribs)

  one_more : (first : ℕ) (later : List SentRoute) (o : Option RouteLeft) → first < count → AllByRecursion IsOfOne later
      → AllByRecursion IsOfOne (cons_option (option_map (sent_by first) o) later)
  one_more first later None known all = all
  one_more first later (Some route) known all = (known, all)

  of_ones : (first : ℕ) (ribs : List RibContent) → first + length ribs ≡ count → AllByRecursion IsOfOne (routes_from_one first ribs)
  of_ones first [] all = tt
  of_ones first (rib ∷ ribs) all =
      one_more first (routes_from_one (first + 1) ribs) (get rib.routes prefix) (omega (arith, all))
      (of_ones (first + 1) ribs (omega (arith, all)))

-- what a client gets is the route of a peer that there is
pub best-known : (tables : TablesContent) (client : ℕ) (prefix : IpPrefix) (route : SentRoute) → best_of tables client prefix ≡ Some route
    → route.peer < length tables.ribs
best-known tables client prefix route is =
    let IsKnown : SentRoute → Type 0 = λ route. route.peer < length tables.ribs in
    let eligible : SentRoute → Bool = λ route. is_eligible tables.plan route.peer route.attributes in
    let accepted : SentRoute → Bool = λ route. accepts tables.plan route.peer prefix route.attributes in
    let permitted : SentRoute → Bool = is_sent_to tables.plan client in
    let known : AllByRecursion IsKnown (candidates_of tables client prefix) =
    filter_keeps IsKnown permitted (filter eligible (filter accepted (routes_on prefix tables.ribs)))
    (filter_keeps IsKnown eligible (filter accepted (routes_on prefix tables.ribs))
    (filter_keeps IsKnown accepted (routes_on prefix tables.ribs) (of_ones prefix (length tables.ribs) 0 tables.ribs (omega arith)))) in
    choice-All IsKnown (standing_of tables.plan) (candidates_of tables client prefix) route
    (all_places IsKnown (candidates_of tables client prefix) known) is
