-- Eligible routes: the server's AS isn't in AS_PATH (RFC 4271, section 9.1.2), and NEXT_HOP is semantically correct
-- (section 6.3). Our choice: the subnet of the exchange is configured.
use Rattle.std.specs.Prelude.{ℕ, ◌==◌, Bool, true, false, not, ◌&&◌, ◌||◌, Option, None, Some, slice_get}
use Rattle.std.specs.Option.{option_map_or}
use Rattle.rs_types.specs.IpPrefix.{IpPrefix}
use Rattle.rs_types.specs.Prefix.{network_of}
use Rattle.rs_types.specs.PathAttributes.{PathAttributes}
use Rattle.rs_types.specs.AsPath.{holds_as_in}
use Rattle.rs_choice.specs.declared.plan.Local.{Local}
use Rattle.rs_choice.specs.Plan.{Peer, Plan}

-- an address is inside a prefix if it begins with the bits of the prefix
abbrev pub is_inside : IpPrefix → ℕ → Bool
is_inside prefix address = (network_of address prefix.len).address == prefix.address

-- An address is on the exchange if it is the sender's own or inside the configured subnet. If no subnet is
-- configured, every address is on the exchange.
abbrev pub is_on_exchange : Option IpPrefix → ℕ → ℕ → Bool
is_on_exchange None sender_address address = true
is_on_exchange (Some subnet) sender_address address = address == sender_address || is_inside subnet address

-- A route is eligible if the server's AS is in no segment of its AS_PATH, and its NEXT_HOP is on the exchange. Its
-- NEXT_HOP must not be the server's own address either.
abbrev pub is_eligible_from : Local → Peer → PathAttributes → Bool
is_eligible_from local sender attributes =
    not (holds_as_in attributes.path local.asn)
    && (not (attributes.next_hop == local.address)
    && is_on_exchange local.subnet sender.address attributes.next_hop)

-- whether a route is eligible, by the number of its sender; no route of an unknown peer is eligible
abbrev pub is_eligible : Plan → ℕ → PathAttributes → Bool
is_eligible plan number attributes =
    option_map_or (λ sender. is_eligible_from plan.local sender attributes) (slice_get plan.peers number) false
