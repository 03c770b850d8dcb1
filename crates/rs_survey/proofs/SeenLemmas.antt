-- The routes on a prefix, peer after peer, and what is seen of each: for seen.rt and removing.rt.
use Rattle.std.proofs.Common.{◌≡◌, ◌∙◌, sym, ap, refl, ℕ, ◌<◌, ◌+◌, Bool, true, false, ◌&&◌, List, [], ◌∷◌, ◌++◌, length, map, drop}
use Rattle.std.proofs.Common.{drop-cons, add-one, append_assoc}
use Rattle.std.specs.Prelude.{Option, None, Some, filter, is_none, is_some, not}
use Rattle.std.specs.List.{All}
use Rattle.std.proofs.Common.{cond}
use Rattle.std.proofs.lemmas.List.Elements.{All-head, All-tail}
use Rattle.std.specs.List.{cons_option, enumerate_from, filter_map}
use Rattle.std.specs.Option.{option_map}
use Rattle.std.specs.FinMap.{get}
use Rattle.std.proofs.lemmas.Bool.{and_left, and_right}
use Rattle.std.proofs.lemmas.List.{map-append}
use Rattle.rs_update.specs.IpPrefix.{IpPrefix}
use Rattle.rs_choice.specs.declared.candidate.Standing.{Standing}
use Rattle.rs_choice.specs.declared.step.Step.TheVariants as steps
use Rattle.rs_choice.specs.Decision.{SentRoute, beats}
use Rattle.rs_choice.specs.Acceptance.{accepted_among, accepts, filter_on}
use Rattle.rs_choice.specs.Naturality.{filter-map}
use Rattle.rs_choice.specs.Eligibility.{is_eligible}
use Rattle.rs_choice.specs.Plan.{Plan}
use Rattle.rs_table.specs.Content.{RibContent, TablesContent, nothing_held, rib_of}
use Rattle.rs_table.specs.Table.{route_from, sent_by}
use Rattle.rs_explain.specs.Reasons.{failed_condition, kind_of}
use Rattle.rs_explain.specs.Removals.{beats_by_med}
use Rattle.rs_explain.proofs.AgreementLemmas.{eligible_unless}
use Rattle.rs_survey.specs.declared.seen.Seen.{Seen}
use Rattle.rs_survey.specs.Seen.{IsFilteredOn, IsSeen, sent_of_seen}

-- the routes of the peers from one number on
abbrev pub routes_from : IpPrefix → ℕ → List RibContent → List SentRoute
routes_from prefix first ribs =
    filter_map (λ (peer, rib). option_map (sent_by peer) (get rib.routes prefix)) (enumerate_from first ribs)

pub routes_from-more : (tables : TablesContent) (prefix : IpPrefix) (peer : ℕ) → peer < length tables.ribs →
    routes_from prefix peer (drop peer tables.ribs)
    ≡ cons_option (route_from tables prefix peer) (routes_from prefix (peer + 1) (drop (peer + 1) tables.ribs))
routes_from-more tables prefix peer within =
    let rest : drop peer tables.ribs ≡ rib_of tables peer ∷ drop (peer + 1) tables.ribs =
    rw (add-one, drop-cons tables.ribs peer nothing_held) refl in
    ap (routes_from prefix peer) rest

-- the routes that are taken in are those that import policy accepts on the prefix
none-not-some : {A : Type 0} (o : Option A) → is_none o ≡ not (is_some o)
none-not-some None = refl
none-not-some (Some x) = refl

pub taken_are : (plan : Plan) (prefix : IpPrefix) (seen : List Seen) → All (IsFilteredOn plan prefix) seen
    → map sent_of_seen (filter (λ one. is_none one.filter) seen) ≡ accepted_among plan prefix (map sent_of_seen seen)
taken_are plan prefix seen all =
    ap (map sent_of_seen) (same seen all)
    ∙ sym (filter-map sent_of_seen (λ (sent : SentRoute). accepts plan sent.peer prefix sent.attributes) seen)
  where
    is_in : Seen → Bool
    is_in one = is_none one.filter

    is_accepted : Seen → Bool
    is_accepted one = accepts plan one.route.peer prefix one.route.attributes.now

    same : (seen : List Seen) → All (IsFilteredOn plan prefix) seen → filter is_in seen ≡ filter is_accepted seen
    same [] all = refl
    same (one ∷ later) all =
        let here : is_in one ≡ is_accepted one =
        ap is_none (All-head (IsFilteredOn plan prefix) one later all)
        ∙ none-not-some (filter_on plan one.route.peer prefix one.route.attributes.now) in
        ap (λ b. cond b (one ∷ filter is_in later) (filter is_in later)) here
        ∙ ap (λ list. cond (is_accepted one) (one ∷ list) list) (same later (All-tail (IsFilteredOn plan prefix) one later all))

-- a route is eligible where no condition is found that it fails
none-map : {A B : Type 0} (f : A → B) (o : Option A) → is_none (option_map f o) ≡ is_none o
none-map f None = refl
none-map f (Some x) = refl

pub eligible_seen : (plan : Plan) (seen : Seen) → IsSeen plan seen →
    is_eligible plan seen.route.peer seen.route.attributes.now ≡ is_none seen.failed
eligible_seen plan seen is =
    eligible_unless plan seen.route.peer seen.route.attributes.now is.known
    ∙ sym (none-map kind_of (failed_condition plan seen.route.peer seen.route.attributes.now)) ∙ ap is_none (sym is.failed)

pub some_not_none : {A : Type 0} (o : Option A) → is_some o ≡ true → is_none o ≡ false
some_not_none None is = absurd (cc is)
some_not_none (Some x) is = refl

pub not_some_none : {A : Type 0} (o : Option A) → is_some o ≡ false → is_none o ≡ true
not_some_none None is = refl
not_some_none (Some x) is = absurd (cc is)

pub first_fails : (x y z : Bool) → x ≡ false → false ≡ (x && (y && z))
first_fails x y z fails = sym (and_left x (y && z) fails)

pub second_fails : (x y z : Bool) → y ≡ false → false ≡ (x && (y && z))
second_fails x y z fails = sym (and_right x (y && z) (and_left y z fails))

-- what MED does not beat is not kept out by MED
last_fails : (x y z w : Bool) → w ≡ false → (x && (y && (z && w))) ≡ false
last_fails x y z w fails = and_right x (y && (z && w)) (and_right y (z && w) (and_right z w fails))

pub not_by_med : (best one other : Standing) → beats steps.Med other one ≡ false → beats_by_med best one other ≡ false
not_by_med best one other fails =
    last_fails (not (beats steps.Preference best other)) (not (beats steps.PathLength best other))
    (not (beats steps.Origin best other)) (beats steps.Med other one) fails

pub third_decides : (x y z : Bool) → x ≡ true → y ≡ true → z ≡ (x && (y && z))
third_decides x y z first second = rw (first, second) refl

pub next_listed : {A B : Type 0} (f : A → B) (items : List A) (all rest total : List B) (one : A) → map f items ++ all ≡ total →
    all ≡ f one ∷ rest → map f (items ++ one ∷ []) ++ rest ≡ total
next_listed f items all rest total one listed is =
    ap (λ front. front ++ rest) (map-append f items (one ∷ [])) ∙ append_assoc (map f items) (f one ∷ []) rest
    ∙ ap (λ later. map f items ++ later) (sym is) ∙ listed
