-- The cells of all prefixes.
use Rattle.std.specs.Prelude.{◌≡◌, ℕ, Bool, if◌then◌else◌, List, [], map, Option, None, Some}
use Rattle.std.specs.BTreeMap.{is_at}
use Rattle.std.specs.FinMap.{from_entries}
use Rattle.std.specs.List.{AllByRecursion, filter_map}
use Rattle.std.specs.Map.{lookup}
use Rattle.std.specs.Option.{option_map, option_or}
use Rattle.rs_types.specs.IpPrefix.{IpPrefix}
use Rattle.rs_types.specs.PrefixOrder.{prefix_cmp, same_prefix}
use Rattle.rs_change.specs.Change.{Change, ChangeBody, Announced, Withdrawn, Lost, Closed}
use Rattle.rs_choice.specs.Plan.{Plan}
use Rattle.rs_table.specs.Left.{reason_drops, Routes}
use Rattle.rs_choice.specs.Decision.{SentRoute}
use Rattle.rs_table.specs.ByPeer.{route_at, with_route, without_route}
use Rattle.rs_table.specs.Cell.{CellContent, IsCellOn, IsKeptCellOn, routes_in}

abbrev pub Entries : Type 0
Entries = List (IpPrefix × CellContent)

-- the cell of a prefix
abbrev pub cell_at : Entries → IpPrefix → Option CellContent
cell_at entries prefix = lookup (is_at (prefix_cmp prefix)) entries

-- the routes on a prefix
abbrev pub routes_of : Option CellContent → List SentRoute
routes_of None = []
routes_of (Some cell) = routes_in cell

abbrev pub routes_at : Entries → IpPrefix → List SentRoute
routes_at entries prefix = routes_of (cell_at entries prefix)

-- the routes of one peer, by prefix
abbrev pub routes_from : Entries → ℕ → Routes
routes_from entries peer =
    from_entries (filter_map
    (λ prefix. option_map (λ route. (prefix, route)) (route_at (routes_at entries prefix) peer))
    (map (λ entry. entry.0) entries))

-- each entry is a cell of the plan on its prefix
abbrev pub AreCells : Plan → Entries → Type 0
AreCells plan entries = AllByRecursion (λ (entry : IpPrefix × CellContent). IsCellOn plan entry.0 entry.1) entries

-- each entry is a cell of the plan on its prefix; if cells keep room, it has room for a route of every peer
abbrev pub AreKeptCells : Bool → Plan → Entries → Type 0
AreKeptCells keeps_room plan entries =
    AllByRecursion (λ (entry : IpPrefix × CellContent). IsKeptCellOn keeps_room plan entry.0 entry.1) entries

-- the routes on a prefix after a change of a peer
abbrev pub changed_routes_body : ℕ → ℕ → ChangeBody → IpPrefix → List SentRoute → List SentRoute
changed_routes_body peer time (Announced announced attributes) prefix routes =
    if same_prefix prefix announced
    then with_route routes (record { peer = peer; time = time; attributes = attributes }) else routes
changed_routes_body peer time (Withdrawn withdrawn) prefix routes =
    if same_prefix prefix withdrawn then without_route routes peer else routes
changed_routes_body peer time Lost prefix routes = without_route routes peer
changed_routes_body peer time (Closed reason) prefix routes =
    if reason_drops reason then without_route routes peer else routes

abbrev pub changed_routes : ℕ → Change → IpPrefix → List SentRoute → List SentRoute
changed_routes peer change prefix routes = changed_routes_body peer change.time change.body prefix routes

-- a change of a peer turns the old entries into the new ones
abbrev pub ChangeTo : ℕ → Change → Entries → Entries → Type 0
ChangeTo peer change before others =
    (prefix : IpPrefix) → routes_at others prefix ≡ changed_routes peer change prefix (routes_at before prefix)

-- the change announces a prefix on which no peer has a route
abbrev pub IsFirstOn : Entries → ChangeBody → Type 0
IsFirstOn entries (Announced prefix attributes) = cell_at entries prefix ≡ None
IsFirstOn entries (Withdrawn prefix) = ⊥
IsFirstOn entries Lost = ⊥
IsFirstOn entries (Closed reason) = ⊥

-- the cells of two maps were put into one
abbrev pub AreJoined : Entries → Entries → Entries → Type 0
AreJoined one other joined =
    (prefix : IpPrefix) → cell_at joined prefix ≡ option_or (cell_at other prefix) (cell_at one prefix)
