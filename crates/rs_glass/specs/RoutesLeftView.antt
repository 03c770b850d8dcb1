-- The routes that a peer's changes leave, by the announcements that are stored.
use Rattle.std.specs.Prelude.{Bool, true, List, map}
use Rattle.rs_session.specs.Change.{Change, ChangeBody, Announced, Withdrawn, Lost, Closed, change_of}
use Rattle.rs_table.specs.Left.{HasNoClose, Routes, is_on, left, reason_drops}
use Rattle.rs_glass.specs.declared.routes_left.RoutesLeft.TheInside.{Inside}

abbrev pub kept_changes : Inside → List Change
kept_changes fields = map change_of fields.announcements.items

abbrev pub routes_left_view : Inside → Routes
routes_left_view fields = left (kept_changes fields)

-- no stored change is a close
abbrev pub AreOpen : Inside → Type 0
AreOpen fields = HasNoClose (kept_changes fields)

-- a change removes the route of an earlier announcement
abbrev pub body_ends_route : ChangeBody → Change → Bool
body_ends_route (Announced prefix attributes) kept = is_on prefix kept
body_ends_route (Withdrawn prefix) kept = is_on prefix kept
body_ends_route Lost kept = true
body_ends_route (Closed reason) kept = reason_drops reason

abbrev pub ends_route : Change → Change → Bool
ends_route change kept = body_ends_route change.body kept
