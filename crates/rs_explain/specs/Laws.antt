-- Laws of explanations.
use Rattle.std.specs.Prelude.{◌≡◌, ◌<◌, ℕ, false, IsTrue, List, length}
use Rattle.std.specs.List.{list_any, Contains}
use Rattle.std.specs.Option.{option_map}
use Rattle.rs_update.specs.IpPrefix.{IpPrefix}
use Rattle.rs_update.specs.PathAttributes.{PathAttributes}
use Rattle.rs_choice.specs.Acceptance.{filter_on}
use Rattle.rs_choice.specs.Decision.{beats, SentRoute}
use Rattle.rs_choice.specs.Plan.{Plan}
use Rattle.rs_table.specs.Content.{TablesContent}
use Rattle.rs_table.specs.Table.{candidates_of, why_of}
use Rattle.rs_explain.specs.declared.explanation.Explanation.{Explanation}
use Rattle.rs_explain.specs.declared.explanation.Explanation.TheVariants.{Lost}
use Rattle.rs_explain.specs.declared.removal.Removal.{Removal}
use Rattle.rs_explain.specs.Contenders.{contender_of}
use Rattle.rs_explain.specs.Explanations.{answer_of, IsExplanation}
use Rattle.rs_explain.specs.Filtered.{failed_filter, filter_in}
use Rattle.rs_session.specs.Change.{Change}
use Rattle.rs_table.specs.Left.{drops_routes, Leaves, RouteLeft}
use Rattle.rs_explain.specs.declared.last_said.Ending.{Ending}
use Rattle.rs_explain.specs.declared.last_said.LastSaid.TheVariants as said
use Rattle.rs_explain.specs.LastSaid.{IsSaidLast}

-- an explanation agrees with the answer
abbrev pub ExplanationAgrees : Type 0
ExplanationAgrees =
    (tables : TablesContent) (client peer : ℕ) (prefix : IpPrefix) (explanation : Explanation) →
    client < length tables.plan.peers → peer < length tables.plan.peers →
    IsExplanation tables client peer prefix explanation → answer_of explanation ≡ why_of tables client peer prefix

-- each filter that does not take a route in has a value, and the condition with this value is of that filter
abbrev pub FilterHasValue : Type 0
FilterHasValue =
    (plan : Plan) (number : ℕ) (prefix : IpPrefix) (attributes : PathAttributes)
    → option_map filter_in (failed_filter plan number prefix attributes) ≡ filter_on plan number prefix attributes

-- The peer that is named as the rival of a route has a route on the prefix. That route is a candidate of the client
-- too, and beats the first one.
abbrev pub RivalIsCandidate : Type 0
RivalIsCandidate =
    (tables : TablesContent) (client peer : ℕ) (prefix : IpPrefix) (removal : Removal) →
    IsExplanation tables client peer prefix (Lost removal) →
    ((route : SentRoute) × Contains (candidates_of tables client prefix) route
    × (contender_of tables.plan route ≡ removal.rival))
    × IsTrue (beats removal.step removal.rival.standing removal.loser.standing)

-- If a list closes only at the end of its file, a route that is said to be announced last is left. It has the time
-- of that announcement.
abbrev pub AnnouncedIsLeft : Type 0
AnnouncedIsLeft =
    (prefix : IpPrefix) (changes : List Change) (time : ℕ) → IsSaidLast prefix changes (said.Announced time)
    → list_any drops_routes changes ≡ false →
    (route : RouteLeft) × (route.time ≡ time) × Leaves changes prefix route

-- a route that is said to be never announced is not left
abbrev pub NeverAnnouncedIsNotLeft : Type 0
NeverAnnouncedIsNotLeft =
    (prefix : IpPrefix) (changes : List Change) → IsSaidLast prefix changes said.NeverAnnounced
    → (route : RouteLeft) → Leaves changes prefix route → ⊥

-- a route that is said to be removed is not left
abbrev pub EndedIsNotLeft : Type 0
EndedIsNotLeft =
    (prefix : IpPrefix) (changes : List Change) (time : ℕ) (ending : Ending)
    → IsSaidLast prefix changes (said.Ended time ending) →
    (route : RouteLeft) → Leaves changes prefix route → ⊥
