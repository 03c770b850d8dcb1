-- Why a route may be no candidate of a client. Either it fails a condition of eligibility (RFC 4271, section 9.1.2).
-- Or a rule of export policy refuses it (RFC 7947, section 2.3). The conditions and rules themselves are defined in
-- `rs_choice`.
use Rattle.std.specs.Prelude.{ℕ, ◌==◌, Bool, not, if◌then◌else◌, List, [], ◌∷◌, Option, None, Some, slice_get}
use Rattle.std.specs.Option.{option_and_then}
use Rattle.rs_update.specs.AsPath.{holds_as_in}
use Rattle.rs_update.specs.Community.{has_community_in}
use Rattle.rs_update.specs.PathAttributes.{PathAttributes}
use Rattle.rs_choice.specs.declared.plan.Local.{Local}
use Rattle.rs_choice.specs.Eligibility.{is_on_exchange}
use Rattle.rs_choice.specs.Plan.{Peer, Plan}
use Rattle.rs_choice.specs.Policy.{has_large}
use Rattle.rs_choice.specs.Refusal.{refuses}
use Rattle.rs_explain.specs.declared.condition.Condition.{Condition}
use Rattle.rs_explain.specs.declared.condition.Condition.TheVariants.{OwnAs, ServerAsNextHop, NextHopOffExchange}
use Rattle.rs_explain.specs.declared.condition.ConditionKind.{ConditionKind}
use Rattle.rs_explain.specs.declared.condition.ConditionKind.TheVariants as kinds
use Rattle.rs_explain.specs.declared.refusal.Refusal.{Refusal}
use Rattle.rs_explain.specs.declared.refusal.Refusal.TheVariants.{ByName, ToClient, LargeToClient, ToAll, LargeToAll}

-- each test stands with an answer; the answer is that of the first test that succeeds
abbrev pub first_answer : {A : Type 0} → List (Bool × A) → Option A
first_answer [] = None
first_answer ((holds, answer) ∷ later) = if holds then Some answer else first_answer later

-- the conditions in their order, each with the test that a route fails it
abbrev pub conditions : Local → Peer → PathAttributes → List (Bool × Condition)
conditions local sender attributes =
    (holds_as_in attributes.path local.asn, OwnAs local.asn)
    ∷ (attributes.next_hop == local.address, ServerAsNextHop attributes.next_hop)
    ∷ (not (is_on_exchange local.subnet sender.address attributes.next_hop), NextHopOffExchange attributes.next_hop)
    ∷ []

-- the first condition that a route of a sender fails, by the sender's number
abbrev pub failed_condition : Plan → ℕ → PathAttributes → Option Condition
failed_condition plan number attributes =
    option_and_then (λ sender. first_answer (conditions plan.local sender attributes)) (slice_get plan.peers number)

-- the kind of a condition, without its value
abbrev pub kind_of : Condition → ConditionKind
kind_of (OwnAs asn) = kinds.OwnAs
kind_of (ServerAsNextHop address) = kinds.ServerAsNextHop
kind_of (NextHopOffExchange address) = kinds.NextHopOffExchange

-- The rules in their order, for a client of this AS number and a route with these attributes. The Boolean says whether
-- the client refuses all routes of the sender. Each rule stands with the test that it applies; it refuses the route or
-- permits it.
abbrev pub rules : Plan → Bool → ℕ → PathAttributes → List (Bool × Option Refusal)
rules plan by_name client_asn attributes =
    (by_name, Some ByName)
    ∷ (has_community_in attributes.communities 0 client_asn, Some (ToClient client_asn))
    ∷ (has_large plan attributes 0 client_asn, Some (LargeToClient plan.local.asn client_asn))
    ∷ (has_community_in attributes.communities plan.local.asn client_asn, None)
    ∷ (has_large plan attributes 1 client_asn, None)
    ∷ (has_community_in attributes.communities 0 plan.local.asn, Some (ToAll plan.local.asn))
    ∷ (has_large plan attributes 0 0, Some (LargeToAll plan.local.asn)) ∷ []

-- the first rule that applies decides
abbrev pub ruling : Plan → Bool → ℕ → PathAttributes → Option Refusal
ruling plan by_name client_asn attributes =
    option_and_then (λ ruling. ruling) (first_answer (rules plan by_name client_asn attributes))

-- the refusal of a sender's route to a client, by their numbers
abbrev pub refusal_of : Plan → ℕ → ℕ → PathAttributes → Option Refusal
refusal_of plan client number attributes =
    option_and_then (λ receiver. option_and_then
    (λ sender. ruling plan (refuses receiver sender) receiver.asn attributes)
    (slice_get plan.peers number)) (slice_get plan.peers client)
