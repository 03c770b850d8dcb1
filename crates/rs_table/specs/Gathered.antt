-- Changes that are collected in lists, one list for each first octet of a prefix, and the routes that they leave
-- (our choice).
use Rattle.std.specs.Prelude.{◌≡◌, ◌≤◌, ◌+◌, ◌*◌, ◌/◌, ◌^◌, ℕ, ◌==◌, Bool, true, false, not, ◌&&◌, if◌then◌else◌, List, [], All}
use Rattle.std.specs.Prelude.{Option, None, filter, length, map, reverse, slice_get, slice_index_or}
use Rattle.std.specs.List.{find, filter_map, flat_map}
use Rattle.std.specs.Option.{is_some, option_map, option_map_or}
use Rattle.std.specs.Ordering.{nat_cmp, ordering_then}
use Rattle.std.specs.declared.cmp.Ordering.{Ordering}
use Rattle.std.specs.FinMap.{from_entries}
use Rattle.rs_types.specs.IpPrefix.{IpPrefix}
use Rattle.rs_types.specs.PrefixOrder.{prefix_cmp, same_prefix}
use Rattle.rs_change.specs.Change.{Change}
use Rattle.rs_table.specs.Logged.{Logged}
use Rattle.rs_table.specs.declared.log.Log.{Log}
use Rattle.rs_table.specs.Left.{RouteLeft, Routes, bears_on, body_route, drops_routes}

-- the first octet of a prefix
abbrev pub first_octet : IpPrefix → ℕ
first_octet prefix = prefix.address / 2 ^ 24

-- an entry is of this peer and on this prefix
abbrev pub is_of : ℕ → IpPrefix → Logged → Bool
is_of peer prefix entry = entry.peer == peer && same_prefix prefix entry.prefix

-- an entry is current if its peer has lost no session since the entry came; otherwise it is void
abbrev pub is_current : List ℕ → Logged → Bool
is_current losses entry = option_map_or (λ lost. lost == entry.losses) (slice_get losses entry.peer) false

abbrev pub counts : List ℕ → ℕ → IpPrefix → Logged → Bool
counts losses peer prefix entry = is_of peer prefix entry && is_current losses entry

-- the route that an entry announces; None if it is a withdrawal
abbrev pub entry_route : Logged → Option RouteLeft
entry_route entry = option_map (λ attributes. record { time = entry.time; attributes = attributes }) entry.attributes

abbrev pub announces : Logged → Bool
announces entry = is_some entry.attributes

-- an entry by which its peer has left a route
abbrev pub IsAnnounced : List ℕ → Logged → Type 0
IsAnnounced losses entry = (is_current losses entry ≡ true) × (announces entry ≡ true)

-- the order of a compacted list: by prefix, then by peer
abbrev pub logged_cmp : Logged → Logged → Ordering
logged_cmp one other = ordering_then (prefix_cmp one.prefix other.prefix) (nat_cmp one.peer other.peer)

-- the same order as one number: its digits to the base 256 are the address, the length and the peer
abbrev pub rank_of : Logged → ℕ
rank_of entry = (entry.prefix.address * 256 + entry.prefix.len) * 256 + entry.peer

-- What a list of entries leaves a peer on a prefix. The last entry of this peer and prefix that is not void decides.
-- If there is no such entry, the route from before stays.
abbrev pub left_over : List ℕ → List Logged → ℕ → IpPrefix → Option RouteLeft → Option RouteLeft
left_over losses entries peer prefix before =
    option_map_or entry_route (find (counts losses peer prefix) (reverse entries)) before

abbrev pub left_in : List ℕ → List Logged → ℕ → IpPrefix → Option RouteLeft
left_in losses entries peer prefix = left_over losses entries peer prefix None

-- all lists; below, the route that they leave a peer on a prefix: only the list of the prefix's first octet counts
abbrev pub lists_of : List Log → List (List Logged)
lists_of logs = map (λ log. log.entries.items) logs

abbrev pub left_at : List ℕ → List Log → ℕ → IpPrefix → Option RouteLeft
left_at losses logs peer prefix = left_in losses (slice_index_or (lists_of logs) (first_octet prefix) []) peer prefix

-- the prefixes that lists have entries on; below, the routes that the lists leave a peer on all these prefixes
abbrev pub prefixes_in : List (List Logged) → List IpPrefix
prefixes_in lists = flat_map (λ entries. map (λ entry. entry.prefix) entries) lists

unfoldable pub routes_gathered : List ℕ → List Log → ℕ → Routes
routes_gathered losses logs peer =
    from_entries (filter_map (λ prefix. option_map (λ route. (prefix, route)) (left_at losses logs peer prefix))
    (prefixes_in (lists_of logs)))

-- the entries of all peers but one
abbrev pub of_others : ℕ → List Logged → List Logged
of_others peer entries = filter (λ entry. not (entry.peer == peer)) entries

-- an entry of the list of an octet: its prefix begins with the octet, and it does not count more losses than its
-- peer has now
pub record IsEntryOf (losses : List ℕ) (octet : ℕ) (entry : Logged) : Type 0 where
  pub octet_is : first_octet entry.prefix ≡ octet
  pub losses_are : entry.losses ≤ slice_index_or losses entry.peer 0

pub record AreLogs (losses : List ℕ) (logs : List Log) : Type 0 where
  pub count : length logs ≡ 256
  pub entries : (octet : ℕ) → All (IsEntryOf losses octet) (slice_index_or (lists_of logs) octet [])

-- the route that a peer has left on a prefix after one of its changes
abbrev pub left_after : Change → IpPrefix → Option RouteLeft → Option RouteLeft
left_after change prefix before =
    if drops_routes change then None
    else if bears_on prefix change then body_route change.time change.body else before

-- a change of a peer turns the old lists into the new ones
abbrev pub GathersTo : ℕ → Change → List ℕ → List Log → List ℕ → List Log → Type 0
GathersTo peer change losses logs losses_then logs_then =
    (other : ℕ) (prefix : IpPrefix) → left_at losses_then logs_then other prefix
    ≡ (if peer == other then left_after change prefix (left_at losses logs other prefix)
    else left_at losses logs other prefix)

-- a loss of a peer turns the old lists into the new ones: they leave the peer nothing
abbrev pub LosesTo : ℕ → List ℕ → List Log → List ℕ → List Log → Type 0
LosesTo peer losses logs losses_then logs_then =
    (other : ℕ) (prefix : IpPrefix) → left_at losses_then logs_then other prefix
    ≡ (if peer == other then None else left_at losses logs other prefix)

-- an entry turns the old lists into the new ones
abbrev pub IsAdded : List ℕ → Logged → List Log → List Log → Type 0
IsAdded losses entry logs logs_then =
    (peer : ℕ) (prefix : IpPrefix) → left_at losses logs_then peer prefix
    ≡ (if counts losses peer prefix entry then entry_route entry else left_at losses logs peer prefix)
