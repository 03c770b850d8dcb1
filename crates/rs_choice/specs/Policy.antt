-- Export policy: which routes a client may get (RFC 7947, section 2.3). The five cases and their order are our
-- choice, over the communities of RFC 1997 and the large communities of RFC 8092.
use Rattle.std.specs.Prelude.{ℕ, ◌==◌, Bool, true, false, not, ◌&&◌, ◌||◌, if◌then◌else◌, slice_get}
use Rattle.std.specs.Option.{option_map_or}
use Rattle.rs_types.specs.PathAttributes.{PathAttributes}
use Rattle.rs_types.specs.Community.{has_community_in, has_community_of_in}
use Rattle.rs_choice.specs.LargeCommunity.{has_large_community, has_large_community_of}
use Rattle.rs_choice.specs.Plan.{Peer, Plan}
use Rattle.rs_choice.specs.Refusal.{refuses}

-- the plan counts large communities, and the route has the large community s:kind:asn, s being the server's AS
abbrev pub has_large : Plan → PathAttributes → ℕ → ℕ → Bool
has_large plan attributes kind asn = plan.large_communities && has_large_community attributes plan.local.asn kind asn

-- The four cases by communities, of which the first that applies counts. The server's AS is s, and the client's is x:
-- - 0:x, or the large community s:0:x: refused to this client.
-- - s:x, or s:1:x: permitted to this client.
-- - 0:s, or s:0:0: refused to all clients. Otherwise: permitted.
abbrev pub permits_by_communities : Plan → ℕ → PathAttributes → Bool
permits_by_communities plan asn attributes =
    if has_community_in attributes.communities 0 asn || has_large plan attributes 0 asn then false
    else if has_community_in attributes.communities plan.local.asn asn || has_large plan attributes 1 asn then true
    else if has_community_in attributes.communities 0 plan.local.asn || has_large plan attributes 0 0 then false
    else true

-- a client that refuses the sender gets none of its routes; otherwise the communities decide
abbrev pub is_permitted_from : Plan → Peer → Peer → PathAttributes → Bool
is_permitted_from plan client sender attributes =
    if refuses client sender then false else permits_by_communities plan client.asn attributes

-- Whether export policy permits a route, by the numbers of client and sender. A client never gets its own route, nor
-- a route of an unknown peer.
abbrev pub is_permitted : Plan → ℕ → ℕ → PathAttributes → Bool
is_permitted plan client number attributes =
    not (client == number)
    && option_map_or
    (λ receiver. option_map_or (λ sender. is_permitted_from plan receiver sender attributes)
    (slice_get plan.peers number) false) (slice_get plan.peers client) false

-- Whether some community of a route may refuse it to a client: one whose high half is 0, or a large community s:0 of
-- the server's AS s, if the plan counts large communities.
abbrev pub may_refuse : Plan → PathAttributes → Bool
may_refuse plan attributes =
    has_community_of_in attributes.communities 0
    || (plan.large_communities && has_large_community_of attributes plan.local.asn 0)
