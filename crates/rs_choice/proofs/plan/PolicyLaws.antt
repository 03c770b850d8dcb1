-- Laws of export policy: for `uncounted_large_communities_are_no_matter` and `policy_ignores_the_order_of_communities`
-- of laws.rt.
use Rattle.std.proofs.Common.{◌≡◌, ◌∙◌, Bool, true, false, not, ◌&&◌, ◌||◌, ◌==◌, refl}
use Rattle.std.specs.Prelude.{slice_get, if◌then◌else◌}
use Rattle.std.specs.Option.{option_map_or}
use Rattle.std.proofs.lemmas.Bool.{ne_eqb}
use Rattle.rs_types.specs.Community.{has_community_in}
use Rattle.rs_types.specs.PathAttributes.{PathAttributes}
use Rattle.rs_choice.specs.Laws.{HaveSameCommunities, PolicyIgnoresOrder, UncountedAreNoMatter}
use Rattle.rs_choice.specs.Plan.{Peer, Plan}
use Rattle.rs_choice.specs.Policy.{is_permitted_from}
use Rattle.rs_choice.specs.Refusal.{refuses}
use Rattle.rs_choice.proofs.PermitLemmas.{is_permitted-known}

or_false : (b : Bool) → (b || false) ≡ b
or_false true = refl
or_false false = refl

-- without large communities the three tests are those of the communities
uncounted : (plan : Plan) (receiver sender : Peer) (attributes : PathAttributes) → plan.large_communities ≡ false →
    is_permitted_from plan receiver sender attributes
    ≡ (if refuses receiver sender then false
    else if has_community_in attributes.communities 0 receiver.asn then false
    else if has_community_in attributes.communities plan.local.asn receiver.asn then true
    else if has_community_in attributes.communities 0 plan.local.asn then false
    else true)
uncounted plan receiver sender attributes off =
    rw (
      off,
      or_false (has_community_in attributes.communities 0 receiver.asn),
      or_false (has_community_in attributes.communities plan.local.asn receiver.asn),
      or_false (has_community_in attributes.communities 0 plan.local.asn),
    ) refl

pub uncounted_are_no_matter : UncountedAreNoMatter
uncounted_are_no_matter plan client number receiver sender attributes off differ at_receiver at_sender =
    is_permitted-known plan client number attributes receiver sender at_receiver at_sender
    ∙ rw (ne_eqb client number differ) (uncounted plan receiver sender attributes off)

-- two peers' policy looks at communities by their numbers alone
same_from : (plan : Plan) (receiver sender : Peer) (one other : PathAttributes) → HaveSameCommunities one other →
    is_permitted_from plan receiver sender one ≡ is_permitted_from plan receiver sender other
same_from plan receiver sender one other have =
    rw (
      have.same 0 receiver.asn,
      have.same plan.local.asn receiver.asn,
      have.same 0 plan.local.asn,
      have.same_large plan.local.asn 0 receiver.asn,
      have.same_large plan.local.asn 1 receiver.asn,
      have.same_large plan.local.asn 0 0,
    ) refl

pub policy_ignores_order : PolicyIgnoresOrder
policy_ignores_order plan client number one other have =
    λ i. not (client == number)
    && option_map_or
    (λ receiver. option_map_or (λ sender. same_from plan receiver sender one other have i)
    (slice_get plan.peers number) false) (slice_get plan.peers client) false
