-- Laws of the decision process, of export policy and of the faults of a plan.
use Rattle.std.specs.Prelude.{◌≡◌, ◌≢◌, ◌<◌, ◌↔◌, ◌⊎◌, ℕ, Bool, true, false, if◌then◌else◌, IsTrue, IsFalse, List}
use Rattle.std.specs.Prelude.{[], ◌∷◌, ◌++◌, filter, None}
use Rattle.std.specs.Prelude.{Some, MatchOption, slice_get}
use Rattle.std.specs.List.{Contains}
use Rattle.rs_choice.specs.declared.plan.Local.{Local}
use Rattle.rs_choice.specs.declared.step.Step.{Step}
use Rattle.rs_choice.specs.declared.step.Step.TheVariants as steps
use Rattle.rs_choice.specs.Acceptance.{accepted_among}
use Rattle.rs_choice.specs.Clients.{MayGet, best_peer_for, candidates_among, is_sent_to}
use Rattle.rs_choice.specs.Comparison.{IsAhead, Outdoes}
use Rattle.rs_choice.specs.Eligibility.{is_eligible}
use Rattle.rs_choice.specs.Plan.{Peer, Plan, Test, plan_fault}
use Rattle.rs_types.specs.Community.{has_community_in}
use Rattle.rs_types.specs.FirstFault.{first_fault}
use Rattle.rs_types.specs.IpPrefix.{IpPrefix}
use Rattle.rs_types.specs.PathAttributes.{PathAttributes}
use Rattle.rs_import.specs.Import.{no_import}
use Rattle.rs_choice.specs.LargeCommunity.{has_large_community}
use Rattle.rs_choice.specs.Refusal.{refuses}
use Rattle.rs_choice.specs.Policy.{is_permitted}
use Rattle.rs_choice.specs.Decision.{SentRoute, beats, choice, decision_steps, remaining, standing_of, unbeaten}

-- the candidates of a client among the routes that are taken in are those of the routes on a prefix that it may get
abbrev pub CandidatesMayBeGot : Type 0
CandidatesMayBeGot =
    (plan : Plan) (prefix : IpPrefix) (client : ℕ) (routes : List SentRoute) (route : SentRoute)
    → Contains (candidates_among plan client (accepted_among plan prefix routes)) route
    ↔ (Contains routes route × MayGet plan prefix client route)

-- if import policy asks nothing, all routes are taken in
abbrev pub NothingAskedTakesAllIn : Type 0
NothingAskedTakesAllIn =
    (plan : Plan) (prefix : IpPrefix) (routes : List SentRoute) → plan.import ≡ no_import
    → accepted_among plan prefix routes ≡ routes

-- the choice is a member of the set, and there is one unless the set is empty
abbrev pub ChoiceIsMember : Type 0
ChoiceIsMember =
    (plan : Plan) (set : List SentRoute)
    → MatchOption (choice (standing_of plan) set) (set ≡ []) (λ chosen. Contains set chosen)

-- at each step, the choice is among the routes left so far, and none of these beats it
abbrev pub ChoiceIsUnbeaten : Type 0
ChoiceIsUnbeaten =
    (plan : Plan) (set : List SentRoute) (chosen : SentRoute) → choice (standing_of plan) set ≡ Some chosen →
    (before : List Step) (step : Step) (after : List Step) → decision_steps ≡ before ++ step ∷ after →
    Contains (remaining (standing_of plan) before set) chosen
    × ((other : SentRoute) → Contains (remaining (standing_of plan) before set) other
    → IsFalse (beats step (standing_of plan other) (standing_of plan chosen)))

-- two lists have the same members
abbrev pub SameMembers : List SentRoute → List SentRoute → Type 0
SameMembers some others = (route : SentRoute) → Contains some route ↔ Contains others route

-- two routes of the list are the same if their senders have the same address
abbrev pub HaveOwnAddresses : Plan → List SentRoute → Type 0
HaveOwnAddresses plan set =
    (one other : SentRoute) → Contains set one → Contains set other →
    (standing_of plan one).address ≡ (standing_of plan other).address → one ≡ other

-- if the senders' addresses differ, the choice depends neither on the order of the candidates nor on repetitions
abbrev pub ChoiceIgnoresOrder : Type 0
ChoiceIgnoresOrder =
    (plan : Plan) (some others : List SentRoute) → SameMembers some others → HaveOwnAddresses plan some →
    choice (standing_of plan) some ≡ choice (standing_of plan) others

-- a route that the step by MED removes has a rival from the same neighbour AS with a lower MED
abbrev pub MedDecidesWithinNeighbour : Type 0
MedDecidesWithinNeighbour =
    (plan : Plan) (set : List SentRoute) (removed : SentRoute) → Contains set removed
    → (Contains (unbeaten (standing_of plan) steps.Med set) removed → ⊥) →
    (other : SentRoute) × Contains set other
    × ((standing_of plan other).neighbour ≡ (standing_of plan removed).neighbour)
    × ((standing_of plan other).med < (standing_of plan removed).med)

-- if all routes of a set are permitted to a client, the client gets the choice among all of them
abbrev pub OpenPolicySharesChoice : Type 0
OpenPolicySharesChoice =
    (plan : Plan) (client : ℕ) (set : List SentRoute) →
    ((route : SentRoute) → Contains set route → IsTrue (is_permitted plan client route.peer route.attributes)) →
    choice (standing_of plan) (filter (λ route. is_permitted plan client route.peer route.attributes) set)
    ≡ choice (standing_of plan) set

-- If large communities don't count, refusals by name and the communities of RFC 1997 decide alone
abbrev pub UncountedAreNoMatter : Type 0
UncountedAreNoMatter =
    (plan : Plan) (client number : ℕ) (receiver sender : Peer) (attributes : PathAttributes)
    → plan.large_communities ≡ false → client ≢ number
    → slice_get plan.peers client ≡ Some receiver → slice_get plan.peers number ≡ Some sender →
    is_permitted plan client number attributes
    ≡ (if refuses receiver sender then false
    else if has_community_in attributes.communities 0 receiver.asn then false
    else if has_community_in attributes.communities plan.local.asn receiver.asn then true
    else if has_community_in attributes.communities 0 plan.local.asn then false
    else true)

-- two routes have the same communities and the same large communities, in any order and however often
pub record HaveSameCommunities (one other : PathAttributes) : Type 0 where
  pub same : (high low : ℕ) → has_community_in one.communities high low ≡ has_community_in other.communities high low
  pub same_large : (global first second : ℕ) →
      has_large_community one global first second ≡ has_large_community other global first second

-- such routes of a peer are permitted to the same clients
abbrev pub PolicyIgnoresOrder : Type 0
PolicyIgnoresOrder =
    (plan : Plan) (client number : ℕ) (one other : PathAttributes) → HaveSameCommunities one other →
    is_permitted plan client number one ≡ is_permitted plan client number other

-- the routes that are left when the step by MED begins
abbrev pub reaching_med : Plan → List SentRoute → List SentRoute
reaching_med plan set = remaining (standing_of plan) (steps.Preference ∷ steps.PathLength ∷ steps.Origin ∷ []) set

-- Members other than the choice are taken away from a set. The choice stays the same under one condition on the
-- routes left when the step by MED begins. Each route that is not taken away and that MED removes is beaten by MED
-- by some route that is not taken away.
abbrev pub ChoiceStays : Type 0
ChoiceStays =
    (plan : Plan) (set : List SentRoute) (stays : SentRoute → Bool) (chosen : SentRoute) →
    choice (standing_of plan) set ≡ Some chosen → IsTrue (stays chosen) →
    ((one other : SentRoute) → Contains (reaching_med plan set) one → IsTrue (stays one) →
    Contains (reaching_med plan set) other → IsTrue (beats steps.Med (standing_of plan other) (standing_of plan one)) →
    (third : SentRoute) × Contains (reaching_med plan set) third × IsTrue (stays third)
    × IsTrue (beats steps.Med (standing_of plan third) (standing_of plan one))) →
    choice (standing_of plan) (filter stays set) ≡ Some chosen

-- taking away a candidate that one of the first three steps removes does not change the choice
abbrev pub RemovedIsNoMatter : Type 0
RemovedIsNoMatter =
    (plan : Plan) (before after : List SentRoute) (one : SentRoute) →
    (Contains (reaching_med plan (before ++ one ∷ after)) one → ⊥) →
    choice (standing_of plan) (before ++ one ∷ after) ≡ choice (standing_of plan) (before ++ after)

-- taking away a candidate does not change the choice, if another candidate is before it in preference, path length
-- and origin
abbrev pub BehindIsNoMatter : Type 0
BehindIsNoMatter =
    (plan : Plan) (before after : List SentRoute) (one other : SentRoute) →
    Contains (before ++ after) other → IsAhead (standing_of plan other) (standing_of plan one) →
    choice (standing_of plan) (before ++ one ∷ after) ≡ choice (standing_of plan) (before ++ after)

-- Taking away a candidate does not change the choice if another candidate outdoes it. The other one is before it in
-- the first three steps. Or both are equal there and have the same neighbour AS, and the other one is before it by
-- MED or a later step.
abbrev pub OutdoneIsNoMatter : Type 0
OutdoneIsNoMatter =
    (plan : Plan) (before after : List SentRoute) (one other : SentRoute) →
    Contains (before ++ after) other → Outdoes (standing_of plan other) (standing_of plan one) →
    choice (standing_of plan) (before ++ one ∷ after) ≡ choice (standing_of plan) (before ++ after)

-- The route makes no difference to the client, next to these other routes. It is not eligible, or it is not
-- permitted to the client. Or another route that the client may get outdoes it.
abbrev pub IsNoMatterTo : Plan → ℕ → List SentRoute → SentRoute → Type 0
IsNoMatterTo plan client others one =
    IsFalse (is_eligible plan one.peer one.attributes)
    ⊎ IsFalse (is_sent_to plan client one)
    ⊎ ((other : SentRoute) × Contains others other × IsTrue (is_eligible plan other.peer other.attributes)
    × IsTrue (is_sent_to plan client other)
    × Outdoes (standing_of plan other) (standing_of plan one))

-- a client gets the same route whether or not such a route is on the prefix, and wherever it is in the list
abbrev pub OthersAreNoMatter : Type 0
OthersAreNoMatter =
    (plan : Plan) (client : ℕ) (before after : List SentRoute) (one : SentRoute)
    → IsNoMatterTo plan client (before ++ after) one →
    best_peer_for plan client (before ++ one ∷ after) ≡ best_peer_for plan client (before ++ after)

-- The fault of a plan is that of the first test which finds one. If the plan has no fault, no test finds one.
abbrev pub FaultIsFirst : Type 0
FaultIsFirst =
    (tests : List Test) →
    MatchOption (first_fault tests)
    ((k : ℕ) (test : Test) → slice_get tests k ≡ Some test → IsFalse test.0)
    (λ fault. (place : ℕ) × (slice_get tests place ≡ Some (true, fault))
    × ((k : ℕ) (test : Test) → k < place → slice_get tests k ≡ Some test → IsFalse test.0))

-- the peers of a plan without fault have different addresses
abbrev pub PeersHaveOwnAddresses : Type 0
PeersHaveOwnAddresses =
    (local : Local) (peers : List Peer) → plan_fault local peers ≡ None →
    (i j : ℕ) (one other : Peer) → slice_get peers i ≡ Some one → slice_get peers j ≡ Some other
    → one.address ≡ other.address → i ≡ j
