-- The routes that a peer's list of changes leaves: its Adj-RIB-In (RFC 4271, sections 3.2 and 9.1).
--
-- An announcement replaces the peer's earlier route on the prefix, and a withdrawal removes it. So the last change
-- on a prefix decides. If a session is lost, all routes that were announced before are lost. The session may
-- announce others when it is up again. Our choice: if a session closes at the end of its file, its routes stay. If
-- it closes for any other reason, none stay.
use Rattle.std.specs.Prelude.{◌≡◌, ℕ, Bool, true, false, ◌||◌, List, [], ◌∷◌, ◌++◌, reverse, Option, Some, None}
use Rattle.std.specs.Prelude.{if◌then◌else◌}
use Rattle.std.specs.List.{find, filter_map, list_any}
use Rattle.std.specs.Option.{option_map, option_and_then, option_map_or}
use Rattle.std.specs.FinMap.{FinMap, empty, get, insert, remove, from_entries}
use Rattle.rs_types.specs.IpPrefix.{IpPrefix}
use Rattle.rs_types.specs.PathAttributes.{PathAttributes}
use Rattle.rs_change.specs.declared.word.Reason.{Reason}
use Rattle.rs_change.specs.declared.word.Reason.TheVariants as reasons
use Rattle.rs_change.specs.Change.{Change, ChangeBody, Announced, Withdrawn, Lost, Closed, is_close}
use Rattle.rs_types.specs.PrefixOrder.{prefix_cmp, same_prefix}

-- a route that is left on a prefix: the time of its announcement in seconds, and its attributes
pub record RouteLeft : Type 0 where
  pub time : ℕ
  pub attributes : PathAttributes

-- the routes of one peer, by prefix
abbrev pub Routes : Type 0
Routes = FinMap prefix_cmp RouteLeft

abbrev pub announcement : IpPrefix → RouteLeft → Change
announcement prefix route = record { time = route.time; body = Announced prefix route.attributes }

-- the prefix that a change announces or withdraws, and below, the route that the change leaves there
abbrev pub body_prefix : ChangeBody → Option IpPrefix
body_prefix (Announced prefix attributes) = Some prefix
body_prefix (Withdrawn prefix) = Some prefix
body_prefix Lost = None
body_prefix (Closed reason) = None

-- the route that a change leaves on its prefix: that of an announcement
abbrev pub body_route : ℕ → ChangeBody → Option RouteLeft
body_route time (Announced prefix attributes) = Some (record { time = time; attributes = attributes })
body_route time (Withdrawn prefix) = None
body_route time Lost = None
body_route time (Closed reason) = None

-- a close for any reason but the end of the file removes all routes of the peer
abbrev pub reason_drops : Reason → Bool
reason_drops reasons.EndOfFile = false
reason_drops reason = true

-- whether a change is a close that removes all routes
abbrev pub body_drops : ChangeBody → Bool
body_drops (Announced prefix attributes) = false
body_drops (Withdrawn prefix) = false
body_drops Lost = false
body_drops (Closed reason) = reason_drops reason

-- whether a change is a loss of the session
abbrev pub body_loses : ChangeBody → Bool
body_loses (Announced prefix attributes) = false
body_loses (Withdrawn prefix) = false
body_loses Lost = true
body_loses (Closed reason) = false

-- whether a change is a close that removes all routes, whatever its time
abbrev pub drops_routes : Change → Bool
drops_routes change = body_drops change.body

-- the change says that the session was lost; the session may come up again
abbrev pub is_loss : Change → Bool
is_loss change = body_loses change.body

-- whether a change announces or withdraws this prefix
abbrev pub is_on : IpPrefix → Change → Bool
is_on prefix change = option_map_or (same_prefix prefix) (body_prefix change.body) false

abbrev pub HasNoClose : List Change → Type 0
HasNoClose changes = list_any is_close changes ≡ false

-- What it means that a list of changes leaves a route on a prefix. Somewhere in the list the route is announced.
-- Behind that place there is no change on the prefix and no loss of the session. If the list has a close, the close
-- is for the end of the file.
pub record Leaves (changes : List Change) (prefix : IpPrefix) (route : RouteLeft) : Type 0 where
  pub earlier : List Change
  pub later : List Change
  pub is_announced : changes ≡ earlier ++ announcement prefix route ∷ later
  pub is_last : list_any (is_on prefix) later ≡ false
  pub stays_up : list_any is_loss later ≡ false
  pub keeps_routes : list_any drops_routes changes ≡ false

-- The route that a list of changes leaves on a prefix, computed. The last change that is on the prefix or is a loss
-- of the session decides.
abbrev pub bears_on : IpPrefix → Change → Bool
bears_on prefix change = is_loss change || is_on prefix change

-- the last change that is on the prefix or is a loss of the session
abbrev pub last_change_on : IpPrefix → List Change → Option Change
last_change_on prefix changes = find (bears_on prefix) (reverse changes)

-- the route that a list of changes leaves on a prefix, computed; None if some close removes all routes
abbrev pub route_left_on : IpPrefix → List Change → Option RouteLeft
route_left_on prefix changes =
    if list_any drops_routes changes then None
    else option_and_then (λ change. body_route change.time change.body) (last_change_on prefix changes)

-- the routes that a list of changes leaves on all prefixes in the list, computed
unfoldable pub left : List Change → Routes
left changes =
    from_entries (filter_map (λ prefix. option_map (λ route. (prefix, route)) (route_left_on prefix changes))
    (filter_map (λ change. body_prefix change.body) changes))

-- the routes after one more change, if the list before it has no close
abbrev pub after_body : Routes → ℕ → ChangeBody → Routes
after_body routes time (Announced prefix attributes) =
    insert routes prefix (record { time = time; attributes = attributes })
after_body routes time (Withdrawn prefix) = remove routes prefix
after_body routes time Lost = empty
after_body routes time (Closed reason) = if reason_drops reason then empty else routes

abbrev pub after : Routes → Change → Routes
after routes change = after_body routes change.time change.body

-- A change is new if it announces a prefix on which the peer has no route. No other change needs memory.
abbrev pub IsNewBody : Routes → ChangeBody → Type 0
IsNewBody routes (Announced prefix attributes) = get routes prefix ≡ None
IsNewBody routes (Withdrawn prefix) = ⊥
IsNewBody routes Lost = ⊥
IsNewBody routes (Closed reason) = ⊥

abbrev pub IsNewAnnouncement : Routes → Change → Type 0
IsNewAnnouncement routes change = IsNewBody routes change.body

-- One change turns the routes before into the routes after. This is so for every list without a close that leaves
-- the routes before: with the change at its end, it leaves the routes after.
abbrev pub BecomeBy : Routes → Change → Routes → Type 0
BecomeBy before change after_it =
    (changes : List Change) → HasNoClose changes → left changes ≡ before → left (changes ++ change ∷ []) ≡ after_it
