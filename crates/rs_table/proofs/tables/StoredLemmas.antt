-- What a cell keeps for a client is the choice among the candidates of the client: for `decide` of cell.rt, and for `best` and `cells`
-- of tables.rt, by TablesLemmas.
use Rattle.std.proofs.Common.{◌≡◌, ℕ, ◌+◌, ◌≤◌, Bool, true, false, not, ◌&&◌, ◌==◌, List, [], ◌∷◌, length, filter, Option, Some, None, refl}
use Rattle.std.proofs.Common.{sym, ap, ◌∙◌, arith, inl, inr, cond, map}
use Rattle.std.specs.List.{AllByRecursion}
use Rattle.std.specs.Option.{option_map, option_and_then}
use Rattle.std.proofs.lemmas.Bool.{cases_Bool, cases_lt, and_right, eq-eqb}
use Rattle.std.proofs.lemmas.Bool.Decides.{eqb_tells}
use Rattle.std.proofs.lemmas.Option.{slice_get-get_or, slice_get_past}
use Rattle.rs_choice.specs.Candidacy.{is_taken_in}
use Rattle.rs_choice.specs.declared.held_route.HeldRoute.{HeldRoute}
use Rattle.rs_choice.specs.Held.{sent_of_held, taken_in}
use Rattle.rs_choice.specs.Plan.{Plan}
use Rattle.rs_choice.specs.Decision.{standing_of, SentRoute}
use Rattle.rs_choice.specs.Eligibility.{is_eligible}
use Rattle.rs_choice.specs.Policy.{is_permitted}
use Rattle.rs_choice.specs.Naturality.{choice-All}
use Rattle.rs_table.specs.Left.{RouteLeft}
use Rattle.rs_table.specs.Table.{sent_by}
use Rattle.rs_table.specs.ByPeer.{IsRow, route_at}
use Rattle.rs_table.specs.Cell.{CellContent, AreBestPlaces, ArePlacesOf, IsCell, got_at, got_from, routes_in, stored_best}
use Rattle.rs_choice.specs.Clients.{AreBest, best_peer_for, candidates_among, chosen_for, eligible_among, is_sent_to, peer_or_own}
use Rattle.rs_table.proofs.listing.SelectionLemmas.{all_places, filter_keeps, filter_none}
use Rattle.rs_table.proofs.listing.TableLemmas.{choice-nil}

abbrev left_of : SentRoute → RouteLeft
left_of route = record { time = route.time; attributes = route.attributes }

pub filter_passes : {X : Type 0} (test : X → Bool) (xs : List X) → AllByRecursion (λ x. test x ≡ true) (filter test xs)
filter_passes test [] = tt
filter_passes test (x ∷ xs) =
    elim (cases_Bool (test x)) [
      | inl passes ↦ rw passes (passes, filter_passes test xs)
      | inr fails ↦ rw fails (filter_passes test xs)
    ]

both : {X : Type 0} (P Q R : X → Type 0) (xs : List X) → ((x : X) → P x → Q x → R x) → AllByRecursion P xs → AllByRecursion Q xs
    → AllByRecursion R xs
both P Q R [] f p q = tt
both P Q R (x ∷ xs) f p q = (f x p.0 q.0, both P Q R xs f p.1 q.1)

-- each route of a row is found at its peer
from_there : (from to : ℕ) (routes : List SentRoute) → IsRow from to routes
    → AllByRecursion (λ (route : SentRoute). from ≤ route.peer) routes
from_there from to [] row = tt
from_there from to (route ∷ later) row = (
  row.0,
  both (λ (r : SentRoute). route.peer + 1 ≤ r.peer) (λ (r : SentRoute). route.peer + 1 ≤ r.peer) (λ (r : SentRoute). from ≤ r.peer) later
      (λ r p q. omega (arith, p, row.0))
      (from_there (route.peer + 1) to later row.2) (from_there (route.peer + 1) to later row.2),
)

each_found : (from to : ℕ) (routes : List SentRoute) → IsRow from to routes
    → AllByRecursion (λ (route : SentRoute). route_at routes route.peer ≡ Some (left_of route)) routes
each_found from to [] row = tt
each_found from to (route ∷ later) row =
    let passed : (r : SentRoute) → route.peer + 1 ≤ r.peer → route_at later r.peer ≡ Some (left_of r)
    → route_at (route ∷ later) r.peer ≡ Some (left_of r) =
    λ r more found. elim (eqb_tells route.peer r.peer) [ inl same ↦ absurd (omega (arith, same.1, more)) | inr apart ↦ rw apart.0 found ]
    in (
      rw (eq-eqb route.peer route.peer refl) refl,
      both (λ (r : SentRoute). route.peer + 1 ≤ r.peer) (λ (r : SentRoute). route_at later r.peer ≡ Some (left_of r))
          (λ (r : SentRoute). route_at (route ∷ later) r.peer ≡ Some (left_of r)) later passed
          (from_there (route.peer + 1) to later row.2) (each_found (route.peer + 1) to later row.2),
    )

not_own : (client peer : ℕ) (b : Bool) → (not (client == peer) && b) ≡ true → (peer == client) ≡ false
not_own client peer b e =
    elim (eqb_tells client peer) [
      | inl same ↦ absurd (cc (rw same.0 at e))
      | inr apart ↦ elim (eqb_tells peer client) [ inl other ↦ absurd (apart.1 (sym other.1)) | inr no_one ↦ no_one.0 ]
    ]

-- what holds of all images holds of those of some members
kept_images : {X Y : Type 0} (f : X → Y) (P : Y → Type 0) (test : X → Bool) (xs : List X) → AllByRecursion P (map f xs)
    → AllByRecursion P (map f (filter test xs))
kept_images f P test [] all = tt
kept_images f P test (x ∷ xs) all =
    elim (test x) as (λ b. AllByRecursion P (map f (cond b (x ∷ filter test xs) (filter test xs)))) [
      | true ↦ (all.0, kept_images f P test xs all.1)
      | false ↦ kept_images f P test xs all.1
    ]

-- the routes of a row, and some of them that are taken in
module _ (plan : Plan) (client : ℕ) (routes taken : List SentRoute)
    (found : AllByRecursion (λ (route : SentRoute). route_at routes route.peer ≡ Some (left_of route)) taken) where
  abbrev IsOthers : SentRoute → Type 0
  IsOthers route = ((route.peer == client) ≡ false) × (route_at routes route.peer ≡ Some (left_of route))

  all_others : AllByRecursion IsOthers (candidates_among plan client taken)
  all_others =
      let eligible = eligible_among plan taken in
      let permitted : SentRoute → Bool = is_sent_to plan client in
      both (λ (route : SentRoute). permitted route ≡ true) (λ (route : SentRoute). route_at routes route.peer ≡ Some (left_of route))
      IsOthers (candidates_among plan client taken)
      (λ route is_one found. (not_own client route.peer _ is_one, found))
      (filter_passes permitted eligible)
      (filter_keeps (λ (route : SentRoute). route_at routes route.peer ≡ Some (left_of route)) permitted eligible
      (filter_keeps (λ (route : SentRoute). route_at routes route.peer ≡ Some (left_of route))
      (λ (route : SentRoute). is_eligible plan route.peer route.attributes) taken found))

  pub got_from-best : got_from routes client (best_peer_for plan client taken) ≡ chosen_for plan client taken
  got_from-best = by_best (chosen_for plan client taken) refl
    where
      by_best : (o : Option SentRoute) → chosen_for plan client taken ≡ o
          → got_from routes client (peer_or_own (option_map (λ (route : SentRoute). route.peer) o) client) ≡ o
      by_best None e = rw (eq-eqb client client refl) refl
      by_best (Some route) e =
          let other : IsOthers route =
          choice-All IsOthers (standing_of plan) (candidates_among plan client taken) route
          (all_places IsOthers (candidates_among plan client taken) all_others) e in
          rw other.0 (ap (option_map (sent_by route.peer)) other.1)

pub places-best : (plan : Plan) (held : List HeldRoute) (peers places : List ℕ) → IsRow 0 (length plan.peers) (map sent_of_held held)
    → length peers ≡ length plan.peers → AreBest plan (taken_in held) peers → ArePlacesOf (map sent_of_held held) peers places
    → AreBestPlaces plan held places
places-best plan held peers places row count best same client known =
    let routes = map sent_of_held held in
    same client (omega (arith, known, count)) ∙ ap (got_from routes client) (best client known)
    ∙ got_from-best plan client routes (taken_in held)
    (kept_images sent_of_held (λ (route : SentRoute). route_at routes route.peer ≡ Some (left_of route))
    (λ (one : HeldRoute). is_taken_in one.candidacy) held (each_found 0 (length plan.peers) routes row))

pub best-past : (plan : Plan) (client : ℕ) (routes : List SentRoute) → length plan.peers ≤ client → chosen_for plan client routes ≡ None
best-past plan client routes past =
    let refused : (route : SentRoute) → is_permitted plan client route.peer route.attributes ≡ false =
    λ route. rw (slice_get_past plan.peers client past) (and_right (not (client == route.peer)) false refl) in
    rw (filter_none (is_sent_to plan client) refused (eligible_among plan routes)) (choice-nil plan)

pub stored : (plan : Plan) (cell : CellContent) (client : ℕ) → IsCell plan cell
    → stored_best cell client ≡ chosen_for plan client (taken_in cell.held)
stored plan cell client is =
    elim (cases_lt client (length plan.peers)) [
      | inl known ↦
          ap (option_and_then (got_at (routes_in cell) client))
          (slice_get-get_or cell.bests client 0 (omega (arith, known, is.count)))
          ∙ is.best client known
      | inr past ↦
          ap (option_and_then (got_at (routes_in cell) client)) (slice_get_past cell.bests client (omega (arith, past, is.count)))
          ∙ sym (best-past plan client (taken_in cell.held) past)
    ]
