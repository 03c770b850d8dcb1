-- Import policy: which routes the exchange takes in (RFC 4271, section 9.1.1: policy may find a route ineligible). Its
-- conditions are those of `rs_import`, and our choice but for the last one (RFC 6811).
use Rattle.std.specs.Prelude.{ℕ, Bool, not, List, filter, Option, slice_get}
use Rattle.std.specs.Option.{is_some, option_and_then}
use Rattle.rs_types.specs.IpPrefix.{IpPrefix}
use Rattle.rs_types.specs.PathAttributes.{PathAttributes}
use Rattle.rs_import.specs.Import.{filter_of}
use Rattle.rs_import.specs.declared.filter.Filter.{Filter}
use Rattle.rs_choice.specs.Plan.{Peer, Plan}
use Rattle.rs_choice.specs.Decision.{SentRoute}

-- the filter that does not take in a route of a peer, by the peer's number; None if the route is taken in
abbrev pub filter_from : Plan → ℕ → IpPrefix → PathAttributes → Peer → Option Filter
filter_from plan number prefix attributes sender =
    filter_of plan.import plan.local.asn number sender.asn prefix attributes

abbrev pub filter_on : Plan → ℕ → IpPrefix → PathAttributes → Option Filter
filter_on plan number prefix attributes =
    option_and_then (filter_from plan number prefix attributes) (slice_get plan.peers number)

-- import policy takes the route in
abbrev pub accepts : Plan → ℕ → IpPrefix → PathAttributes → Bool
accepts plan number prefix attributes = not (is_some (filter_on plan number prefix attributes))

-- the routes that import policy takes in, of those on a prefix
abbrev pub accepted_among : Plan → IpPrefix → List SentRoute → List SentRoute
accepted_among plan prefix routes = filter (λ sent. accepts plan sent.peer prefix sent.attributes) routes
