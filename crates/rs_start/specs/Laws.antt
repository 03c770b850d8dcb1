-- The changes that the beginning of a session gives, read as a session (RFC 4271, section 3.1; RFC 6396, section
-- 4.4).
use Rattle.std.specs.Prelude.{◌≡◌, ℕ, List, ◌++◌, map}
use Rattle.std.specs.List.{AllByRecursion}
use Rattle.rs_session.specs.FileChanges.{changes_in_by}
use Rattle.rs_update.specs.declared.errors.Errors.{Errors}
use Rattle.rs_start.specs.declared.start.Start.{Start}
use Rattle.rs_start.specs.Opening.{Announcing, IsSound, IsStart, announced, opening_spelling, routes_in}

-- Under either standard for faults, a file with this beginning gives one announcement of the peer for each route, in
-- order. Then come the changes that the octets behind give as a file of their own. If there are none, that is the
-- close at the end of the file.
abbrev pub OpeningAnnounces : Type 0
OpeningAnnounces =
    (errors : Errors) (start : Start) (updates : List Announcing) (behind : List ℕ)
    → IsStart start → AllByRecursion IsSound updates
    → changes_in_by errors start.peer (opening_spelling start updates ++ behind)
    ≡ map (announced start.time) (routes_in updates) ++ changes_in_by errors start.peer behind
