-- The routes that a client does not get, counted by sender and reason: for missing_counts.rt.
use Rattle.std.proofs.Common.{◌≡◌, ◌∙◌, sym, ap, subst, refl, arith, ℕ, zero, suc, ◌<◌, ◌+◌, ◌==◌, ◌||◌}
use Rattle.std.proofs.Common.{Bool, true, false, cond, List, [], ◌∷◌}
use Rattle.std.proofs.Common.{◌++◌, length, map, get_or, take}
use Rattle.std.specs.Prelude.{All, IfSome, Option, None, Some, MatchOption}
use Rattle.std.specs.FinMap.{get}
use Rattle.std.specs.List.{cons_option, filter_map, flat_map, range_with_len}
use Rattle.std.specs.Option.{option_map, option_or}
use Rattle.std.proofs.lemmas.Bool.Decides.{nat_tests}
use Rattle.std.proofs.lemmas.List.{take_more}
use Rattle.std.proofs.lemmas.List.Elements.{All-cons, All-head, All-nil, All-tail, filter_map-append}
use Rattle.rs_update.specs.IpPrefix.{IpPrefix}
use Rattle.rs_choice.specs.Decision.{SentRoute, decision_steps, standing_of}
use Rattle.rs_table.specs.Content.{TablesContent, rib_of}
use Rattle.rs_table.specs.RouteView.{sent_route_of}
use Rattle.rs_table.specs.Table.{TableRow, best_of, candidates_of, is_from, prefixes_held, route_from}
use Rattle.rs_import.specs.declared.filter.Filter.{Filter}
use Rattle.rs_choice.specs.Acceptance.{filter_on}
use Rattle.rs_explain.specs.declared.condition.Condition.{Condition}
use Rattle.rs_explain.specs.declared.explanation.Explanation.{Explanation}
use Rattle.rs_explain.specs.declared.explanation.Explanation.TheVariants.{Own, Absent, Ineligible, Filtered, Refused, Best, Lost}
use Rattle.rs_explain.specs.declared.missing_reason.MissingReason.TheVariants as reasons
use Rattle.rs_explain.specs.declared.filtered_by.FilteredBy.{FilteredBy}
use Rattle.rs_explain.specs.declared.refusal.Refusal.{Refusal}
use Rattle.rs_explain.specs.Explanations.{IsDecided, IsExplanation, reason_of}
use Rattle.rs_explain.specs.Filtered.{failed_filter, filter_in}
use Rattle.rs_explain.proofs.FilteredLemmas.{filter_of_failed}
use Rattle.rs_explain.specs.MissingReasons.{reason_in, reason_of_refusal}
use Rattle.rs_explain.specs.Reasons.{failed_condition, kind_of, refusal_of}
use Rattle.rs_survey.specs.declared.finding.Finding.TheVariants.{Missing}
use Rattle.rs_survey.specs.declared.on_prefix.MissingOn.{MissingOn}
use Rattle.rs_survey.specs.declared.on_prefix.MissingRoute.{MissingRoute}
use Rattle.rs_survey.specs.Grows.{Grows}
use Rattle.rs_survey.specs.Asked.{is_asked_sender}
use Rattle.rs_survey.specs.Missing.{AreMissing, asked_from, missing_from, missing_on}
use Rattle.rs_survey.specs.MissingCounts.{counted_of, missing_finding, missing_findings, missing_findings_on, reason_for}
use Rattle.rs_survey.specs.Summary.{removed_at}
use Rattle.rs_survey.specs.Tally.{TallyContent}
use Rattle.rs_survey.proofs.GrowthLemmas.{grows_then}
use Rattle.rs_survey.proofs.MissingLemmas.{if_holds, missing_peer}
use Rattle.rs_survey.proofs.StepLemmas.{counted_step}

abbrev pub row_on : IpPrefix → SentRoute → TableRow
row_on prefix route = record { prefix = prefix; route = route }

-- a peer's route that is missing: the peer is known and isn't the client, and the client doesn't get the route
pub record IsMissingRoute (tables : TablesContent) (client : ℕ) (prefix : IpPrefix) (route : SentRoute) : Type 0 where
  pub known : route.peer < length tables.plan.peers
  pub is_left : route_from tables prefix route.peer ≡ Some route
  pub another : (route.peer == client) ≡ false
  pub not_best : is_from route.peer (best_of tables client prefix) ≡ false

-- ---- the reason of an explanation

decided_reason : (tables : TablesContent) (client : ℕ) (prefix : IpPrefix) (route : SentRoute) (explanation : Explanation) →
    IsMissingRoute tables client prefix route → IsExplanation tables client route.peer prefix explanation →
    IsDecided tables client route.peer prefix explanation → reason_in explanation
    ≡ option_map (λ step. reasons.Lost step)
    (removed_at (standing_of tables.plan) decision_steps (candidates_of tables client prefix) route)
decided_reason tables client prefix route Own missing is decided = absurd decided
decided_reason tables client prefix route Absent missing is decided = absurd decided
decided_reason tables client prefix route (Ineligible condition) missing is decided = absurd decided
decided_reason tables client prefix route (Filtered failed) missing is decided = absurd decided
decided_reason tables client prefix route (Refused refusal) missing is decided = absurd decided
decided_reason tables client prefix route (Best beaten) missing is decided =
    absurd (cc (sym decided.0 ∙ missing.not_best))
decided_reason tables client prefix route (Lost removal) missing is decided =
    let step = counted_step tables client route.peer prefix removal is in
    let same : step.0 ≡ route = cc (sym step.1 ∙ missing.is_left) in
    sym (ap (option_map (λ step. reasons.Lost step))
    (ap (removed_at (standing_of tables.plan) decision_steps (candidates_of tables client prefix)) (sym same) ∙ step.2))

reason_by : (tables : TablesContent) (client : ℕ) (prefix : IpPrefix) (route : SentRoute) (explanation : Explanation)
    (failed : Option Condition) (failed_by : Option FilteredBy) (filter : Option Filter) (refusal : Option Refusal) →
    option_map filter_in failed_by ≡ filter → IsMissingRoute tables client prefix route → IsExplanation tables client route.peer prefix explanation →
    MatchOption (option_or (option_map (λ condition. Ineligible condition) failed)
    (option_or (option_map (λ failed. Filtered failed) failed_by) (option_map (λ refusal. Refused refusal) refusal)))
    (IsDecided tables client route.peer prefix explanation) (λ reason. explanation ≡ reason) → reason_in explanation
    ≡ option_or (option_map (λ condition. reasons.Ineligible (kind_of condition)) failed)
    (option_or (option_map (λ filter. reasons.Filtered filter) filter) (option_or (option_map reason_of_refusal refusal)
    (option_map (λ step. reasons.Lost step)
    (removed_at (standing_of tables.plan) decision_steps (candidates_of tables client prefix) route))))
reason_by tables client prefix route explanation (Some condition) failed_by filter refusal same missing is says = ap reason_in says
reason_by tables client prefix route explanation None (Some failed) filter refusal same missing is says =
    rw (sym same) (ap reason_in says)
reason_by tables client prefix route explanation None None filter (Some refusal) same missing is says =
    rw (sym same) (ap reason_in says)
reason_by tables client prefix route explanation None None filter None same missing is says =
    rw (sym same) (decided_reason tables client prefix route explanation missing is says)

other_client : (m n : ℕ) → (m == n) ≡ false → (n == m) ≡ false
other_client m n differs = grind (arith, nat_tests)

-- the reason for a missing route is that of its explanation
pub reason_explained : (tables : TablesContent) (client : ℕ) (prefix : IpPrefix) (route : SentRoute) (explanation : Explanation) →
    IsMissingRoute tables client prefix route → IsExplanation tables client route.peer prefix explanation →
    reason_in explanation ≡ reason_for tables client (row_on prefix route)
reason_explained tables client prefix route explanation missing is =
    let other : (client == route.peer) ≡ false = other_client route.peer client missing.another in
    let before : (if_own : Bool) → (left : Option SentRoute) → Type 0 = λ if_own left.
    MatchOption (cond if_own (Some Own) (reason_of tables.plan client route.peer prefix left))
    (IsDecided tables client route.peer prefix explanation) (λ reason. explanation ≡ reason) in
    reason_by tables client prefix route explanation (failed_condition tables.plan route.peer route.attributes)
    (failed_filter tables.plan route.peer prefix route.attributes) (filter_on tables.plan route.peer prefix route.attributes)
    (refusal_of tables.plan client route.peer route.attributes)
    (filter_of_failed tables.plan route.peer prefix route.attributes) missing is
    (subst (before false) missing.is_left (subst (λ (own : Bool). before own (route_from tables prefix route.peer)) other is))

-- ---- the routes on a prefix

all-cons_option : {Y : Type 0} (Q : Y → Type 0) (y : Option Y) (ys : List Y) → IfSome y Q → All Q ys → All Q (cons_option y ys)
all-cons_option Q None ys here later = later
all-cons_option Q (Some y) ys here later = All-cons Q y ys here later

some_holds : {X Y : Type 0} (P : X → Type 0) (Q : Y → Type 0) (f : X → Option Y) →
    ((x : X) (y : Y) → P x → f x ≡ Some y → Q y) → (x : X) (y : Option Y) → P x → f x ≡ y → IfSome y Q
some_holds P Q f step x None here is = tt
some_holds P Q f step x (Some y) here is = step x y here is

all-filter_map : {X Y : Type 0} (P : X → Type 0) (Q : Y → Type 0) (f : X → Option Y) →
    ((x : X) (y : Y) → P x → f x ≡ Some y → Q y) → (xs : List X) → All P xs → All Q (filter_map f xs)
all-filter_map P Q f step [] all = All-nil Q
all-filter_map P Q f step (x ∷ xs) all =
    all-cons_option Q (f x) (filter_map f xs) (some_holds P Q f step x (f x) (All-head P x xs all) refl)
    (all-filter_map P Q f step xs (All-tail P x xs all))

all-range : (first n : ℕ) → All (λ (x : ℕ). x < first + n) (range_with_len first n)
all-range first zero = All-nil (λ (x : ℕ). x < first + zero)
all-range first (suc n) =
    let here : first < first + suc n = omega arith in
    let place : first + 1 + n ≡ first + suc n = omega arith in
    All-cons (λ (x : ℕ). x < first + suc n) first (range_with_len (first + 1) n) here
    (subst (λ (bound : ℕ). All (λ (x : ℕ). x < bound) (range_with_len (first + 1) n)) place (all-range (first + 1) n))

or_false : (x y : Bool) → (x || y) ≡ false → (x ≡ false) × (y ≡ false)
or_false true y is = absurd (cc is)
or_false false y is = (refl, is)

by_test : (b : Bool) (left : Option SentRoute) (route : SentRoute) → cond b None left ≡ Some route → (b ≡ false) × (left ≡ Some route)
by_test true left route is = absurd (cc is)
by_test false left route is = (refl, is)

missing_step : (tables : TablesContent) (client : ℕ) (prefix : IpPrefix) (peer : ℕ) (route : SentRoute) →
    peer < length tables.plan.peers → missing_from tables client prefix peer ≡ Some route → IsMissingRoute tables client prefix route
missing_step tables client prefix peer route known is =
    let best = best_of tables client prefix in
    let own : route.peer ≡ peer = missing_peer client peer best (get (rib_of tables peer).routes prefix) route (sym is) in
    let tests = by_test ((peer == client) || is_from peer best) (route_from tables prefix peer) route is in
    let parts = or_false (peer == client) (is_from peer best) tests.0 in
    record {
      known = subst (λ (p : ℕ). p < length tables.plan.peers) (sym own) known;
      is_left = subst (λ (p : ℕ). route_from tables prefix p ≡ Some route) (sym own) tests.1;
      another = subst (λ (p : ℕ). (p == client) ≡ false) (sym own) parts.0;
      not_best = subst (λ (p : ℕ). is_from p best ≡ false) (sym own) parts.1;
    }

asked_step : (tables : TablesContent) (client : ℕ) (from : Option ℕ) (prefix : IpPrefix) (peer : ℕ) (route : SentRoute) →
    peer < length tables.plan.peers → asked_from tables client from prefix peer ≡ Some route → IsMissingRoute tables client prefix route
asked_step tables client from prefix peer route known is =
    missing_step tables client prefix peer route known
    (sym (if_holds (is_asked_sender from peer) (missing_from tables client prefix peer) route (sym is)))

missing_are : (tables : TablesContent) (client : ℕ) (from : Option ℕ) (prefix : IpPrefix) →
    All (IsMissingRoute tables client prefix) (missing_on tables client from prefix)
missing_are tables client from prefix =
    let count = length tables.plan.peers in
    let place : 0 + count ≡ count = omega arith in
    all-filter_map (λ (x : ℕ). x < count) (IsMissingRoute tables client prefix) (asked_from tables client from prefix)
    (asked_step tables client from prefix) (range_with_len 0 count)
    (subst (λ (bound : ℕ). All (λ (x : ℕ). x < bound) (range_with_len 0 count)) place (all-range 0 count))

all-unmap : {X Y : Type 0} (P : Y → Type 0) (f : X → Y) (xs : List X) → All P (map f xs) → All (λ x. P (f x)) xs
all-unmap P f [] all = All-nil (λ x. P (f x))
all-unmap P f (x ∷ xs) all =
    All-cons (λ x. P (f x)) x xs (All-head P (f x) (map f xs) all) (all-unmap P f xs (All-tail P (f x) (map f xs) all))

all-means : {X : Type 0} (P Q : X → Type 0) → ((x : X) → P x → Q x) → (xs : List X) → All P xs → All Q xs
all-means P Q step [] all = All-nil Q
all-means P Q step (x ∷ xs) all =
    All-cons Q x xs (step x (All-head P x xs all)) (all-means P Q step xs (All-tail P x xs all))

abbrev sent_of_missing : MissingRoute → SentRoute
sent_of_missing one = sent_route_of one.route

routes_are_missing : (tables : TablesContent) (client : ℕ) (from : Option ℕ) (on : MissingOn) → AreMissing tables client from on →
    All (λ one. IsMissingRoute tables client on.prefix (sent_of_missing one)) on.routes.items
routes_are_missing tables client from on are =
    all-unmap (IsMissingRoute tables client on.prefix) sent_of_missing on.routes.items
    (subst (All (IsMissingRoute tables client on.prefix)) (sym are.routes) (missing_are tables client from on.prefix))

-- their senders are known
pub known_senders : (tables : TablesContent) (client : ℕ) (from : Option ℕ) (peers : ℕ) (on : MissingOn) → AreMissing tables client from on →
    peers ≡ length tables.plan.peers → All (λ one. one.route.peer < peers) on.routes.items
known_senders tables client from peers on are same =
    subst (λ (count : ℕ). All (λ (one : MissingRoute). one.route.peer < count) on.routes.items) (sym same)
    (all-means (λ (one : MissingRoute). IsMissingRoute tables client on.prefix (sent_of_missing one))
    (λ one. one.route.peer < length tables.plan.peers) (λ one is. is.known) on.routes.items (routes_are_missing tables client from on are))

findings_explained : (tables : TablesContent) (client : ℕ) (prefix : IpPrefix) (items : List MissingRoute) →
    All (λ one. IsMissingRoute tables client prefix (sent_of_missing one)) items →
    All (λ one. IsExplanation tables client one.route.peer prefix one.explanation) items →
    filter_map counted_of items ≡ filter_map (missing_finding tables client) (map (row_on prefix) (map sent_of_missing items))
findings_explained tables client prefix [] missing explained = refl
findings_explained tables client prefix (one ∷ items) missing explained =
    let IsHere : MissingRoute → Type 0 = λ one. IsMissingRoute tables client prefix (sent_of_missing one) in
    let IsSaid : MissingRoute → Type 0 = λ one. IsExplanation tables client one.route.peer prefix one.explanation in
    let here : counted_of one ≡ missing_finding tables client (row_on prefix (sent_of_missing one)) =
    ap (option_map (Missing one.route.peer))
    (reason_explained tables client prefix (sent_of_missing one) one.explanation (All-head IsHere one items missing)
    (All-head IsSaid one items explained)) in
    let later = findings_explained tables client prefix items (All-tail IsHere one items missing) (All-tail IsSaid one items explained) in
    λ i. cons_option (here i) (later i)

-- the findings on a prefix
pub findings_here : (tables : TablesContent) (client : ℕ) (from : Option ℕ) (on : MissingOn) → AreMissing tables client from on →
    filter_map counted_of on.routes.items ≡ missing_findings_on tables client from on.prefix
findings_here tables client from on are =
    findings_explained tables client on.prefix on.routes.items (routes_are_missing tables client from on are) are.explained
    ∙ ap (λ (routes : List SentRoute). filter_map (missing_finding tables client) (map (row_on on.prefix) routes)) are.routes

-- ---- the routes on all prefixes

filter_map-flat_map : {X Y Z : Type 0} (f : Y → Option Z) (g : X → List Y) (xs : List X) →
    filter_map f (flat_map g xs) ≡ flat_map (λ x. filter_map f (g x)) xs
filter_map-flat_map f g [] = refl
filter_map-flat_map f g (x ∷ xs) =
    filter_map-append f (g x) (flat_map g xs) ∙ ap (λ later. filter_map f (g x) ++ later) (filter_map-flat_map f g xs)

pub missing_on_each : (tables : TablesContent) (client : ℕ) (from : Option ℕ) →
    missing_findings tables client from ≡ flat_map (missing_findings_on tables client from) (prefixes_held tables.ribs)
missing_on_each tables client from =
    filter_map-flat_map (missing_finding tables client) (λ prefix. map (row_on prefix) (missing_on tables client from prefix))
    (prefixes_held tables.ribs)

-- ---- one route more

pub grows-one : (routes : List MissingRoute) (i : ℕ) (d : MissingRoute) (one two three : TallyContent) → i < length routes →
    Grows one two (filter_map counted_of (take i routes)) → Grows two three (filter_map counted_of (get_or routes i d ∷ [])) →
    Grows one three (filter_map counted_of (take (i + 1) routes))
grows-one routes i d one two three within first later =
    subst (Grows one three)
    (sym (ap (filter_map counted_of) (take_more routes i d within) ∙ filter_map-append counted_of (take i routes) (get_or routes i d ∷ [])))
    (grows_then one two three (filter_map counted_of (take i routes)) (filter_map counted_of (get_or routes i d ∷ [])) first later)
