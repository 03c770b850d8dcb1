-- The policy at two known peers, and routes that no community may refuse, which are refused by their senders' names alone.
-- For `permits`, `permits_other` and `is_open` of policy.rt, and for `permits` of rs_survey.
use Rattle.std.proofs.Common.{◌≡◌, ◌∙◌, sym, arith, ℕ, ◌<◌, ◌/◌, ◌*◌, ◌+◌, ◌==◌, Bool, true, false, not, ◌&&◌, ◌||◌, ◌≢◌, inl, inr, List}
use Rattle.std.proofs.Common.{[], ◌∷◌, length, Option, None, Some, refl}
use Rattle.std.specs.Prelude.{slice_get, nat_lt, if◌then◌else◌}
use Rattle.std.specs.List.{list_any}
use Rattle.std.proofs.lemmas.Bool.{and_left, and_right, cases_Bool, ltb-true, ne_eqb, or_parts}
use Rattle.std.proofs.lemmas.Bool.Decides.{nat_tests}
use Rattle.rs_types.specs.PathAttributes.{PathAttributes, CommunityList}
use Rattle.rs_types.specs.Community.{has_community_in, has_community_of_in, has_value_of}
use Rattle.rs_choice.specs.Held.{IsOpen}
use Rattle.rs_choice.specs.LargeCommunity.{LargeCommunity, has_large_in, has_large_community, has_large_community_of, is_large_of}
use Rattle.rs_choice.specs.LargeCommunity.{large_communities_of}
use Rattle.rs_choice.specs.Plan.{Peer, Plan}
use Rattle.rs_choice.specs.Refusal.{refuses, IsRefusal, IsRefusedSender}
use Rattle.rs_choice.specs.Policy.{has_large, is_permitted, is_permitted_from, may_refuse, permits_by_communities}
use Rattle.rs_choice.proofs.Members.{list_any-none, mem-slice_get, some_at}

-- the policy at two known peers
pub is_permitted-known : (plan : Plan) (client number : ℕ) (attributes : PathAttributes) (one other : Peer) →
    slice_get plan.peers client ≡ Some one → slice_get plan.peers number ≡ Some other →
    is_permitted plan client number attributes ≡ (not (client == number) && is_permitted_from plan one other attributes)
is_permitted-known plan client number attributes one other at_one at_other = rw (at_one, at_other) refl

-- if no value has the high half 0, none is that of (0, low)
no_value_of_0 : (value low : ℕ) → low < 65536 → (value / 65536 == 0) ≡ false → (value == 0 * 65536 + low) ≡ false
no_value_of_0 value low small other = grind (arith, nat_tests)

no_values_of_0 : (values : List ℕ) (low : ℕ) → low < 65536 → has_value_of values 0 ≡ false
    → list_any (λ value. value == 0 * 65536 + low) values ≡ false
no_values_of_0 [] low small none = refl
no_values_of_0 (value ∷ values) low small none =
    let parts = or_parts (value / 65536 == 0) (has_value_of values 0) none in
    rw (no_value_of_0 value low small parts.0, no_values_of_0 values low small parts.1) refl

-- a route without a community (0, AS) has none that refuses it to an AS
no_community_of_0 : (communities : Option CommunityList) (low : ℕ) → has_community_of_in communities 0 ≡ false
    → has_community_in communities 0 low ≡ false
no_community_of_0 None low none = refl
no_community_of_0 (Some list) low none =
    elim (cases_Bool (nat_lt low 65536)) [
      | inl small ↦ and_right (nat_lt low 65536) (list_any (λ value. value == 0 * 65536 + low) list.values)
          (no_values_of_0 list.values low (ltb-true low 65536 small) none)
      | inr large ↦ and_left (nat_lt low 65536) (list_any (λ value. value == 0 * 65536 + low) list.values) large
    ]

-- if no large community has this Global Administrator and this first part, none has a second part with them
no_large_in : (communities : List LargeCommunity) (global first second : ℕ)
    → list_any (λ one. is_large_of one global first) communities ≡ false → has_large_in communities global first second ≡ false
no_large_in [] global first second none = refl
no_large_in (one ∷ communities) global first second none =
    let parts = or_parts (is_large_of one global first) (list_any (λ one. is_large_of one global first) communities) none in
    rw (parts.0, no_large_in communities global first second parts.1) refl

both_uncounted : (counted some one : Bool) → (counted && some) ≡ false → (some ≡ false → one ≡ false) → (counted && one) ≡ false
both_uncounted true some one none so = so none
both_uncounted false some one none so = refl

-- nor does the plan then count one that refuses the route to an AS
no_large_of_0 : (plan : Plan) (attributes : PathAttributes) (second : ℕ)
    → (plan.large_communities && has_large_community_of attributes plan.local.asn 0) ≡ false → has_large plan attributes 0 second ≡ false
no_large_of_0 plan attributes second none =
    both_uncounted plan.large_communities (has_large_community_of attributes plan.local.asn 0)
    (has_large_community attributes plan.local.asn 0 second) none
    (no_large_in (large_communities_of attributes) plan.local.asn 0 second)

neither : (one other : Bool) → one ≡ false → other ≡ false → (one || other) ≡ false
neither one other none no_other = rw (none, no_other) refl

any_way : (b : Bool) → (if b then true else true) ≡ true
any_way true = refl
any_way false = refl

-- so that the communities permit it to every client
permits_without_0 : (plan : Plan) (asn : ℕ) (attributes : PathAttributes) → may_refuse plan attributes ≡ false →
    permits_by_communities plan asn attributes ≡ true
permits_without_0 plan asn attributes none =
    let parts = or_parts (has_community_of_in attributes.communities 0)
    (plan.large_communities && has_large_community_of attributes plan.local.asn 0) none in
    let to_client = neither (has_community_in attributes.communities 0 asn) (has_large plan attributes 0 asn)
    (no_community_of_0 attributes.communities asn parts.0) (no_large_of_0 plan attributes asn parts.1) in
    let to_all = neither (has_community_in attributes.communities 0 plan.local.asn) (has_large plan attributes 0 0)
    (no_community_of_0 attributes.communities plan.local.asn parts.0) (no_large_of_0 plan attributes 0 parts.1) in
    rw (to_client, to_all) (any_way (has_community_in attributes.communities plan.local.asn asn || has_large plan attributes 1 asn))

turned : (b : Bool) → (if b then false else true) ≡ not b
turned true = refl
turned false = refl

-- and then a client gets the routes of another peer that it doesn't refuse
pub is_permitted-without_0 : (plan : Plan) (client number : ℕ) (attributes : PathAttributes) (refused : Bool) →
    client < length plan.peers → number < length plan.peers → client ≢ number → IsRefusal plan.peers client number refused →
    may_refuse plan attributes ≡ false → not refused ≡ is_permitted plan client number attributes
is_permitted-without_0 plan client number attributes refused known sender_known differ refusal none =
    let one = some_at plan.peers client known in
    let other = some_at plan.peers number sender_known in
    let says : refuses one.0 other.0 ≡ refused = sym (refusal one.0 other.0 one.1 other.1) in
    let permits = permits_without_0 plan one.0.asn attributes none in
    sym (is_permitted-known plan client number attributes one.0 other.0 one.1 other.1
    ∙ rw (ne_eqb client number differ, says, permits) (turned refused))

-- and if no client refuses its sender, every client but the sender gets it
pub open-without_0 : (plan : Plan) (number : ℕ) (attributes : PathAttributes) (refused : Bool) → number < length plan.peers →
    IsRefusedSender plan.peers number refused → refused ≡ false → may_refuse plan attributes ≡ false → IsOpen plan number attributes
open-without_0 plan number attributes refused sender_known says none no_community client known differ =
    sym (is_permitted-without_0 plan client number attributes false known sender_known differ none_refuses no_community)
  where
    none_refuses : IsRefusal plan.peers client number false
    none_refuses one other at_one at_other =
        sym (list_any-none (λ receiver. refuses receiver other) plan.peers one (sym (says other at_other) ∙ none)
        (mem-slice_get plan.peers client one at_one))
