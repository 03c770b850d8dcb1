-- The prefixes on which peers have left routes.
use Rattle.std.specs.Prelude.{◌≡◌, Bool, false, List}
use Rattle.std.specs.List.{list_any}
use Rattle.std.specs.FinMap.{contains_key}
use Rattle.rs_types.specs.IpPrefix.{IpPrefix}
use Rattle.rs_change.specs.Change.{Change, ChangeBody, Announced, Withdrawn, Lost, Closed}
use Rattle.rs_table.specs.Content.{RibContent}

-- whether some peer has left a route on a prefix
abbrev pub is_held : List RibContent → IpPrefix → Bool
is_held ribs prefix = list_any (λ rib. contains_key rib.routes prefix) ribs

-- The change announces a prefix on which no peer has left a route. Only such a change needs memory.
abbrev pub IsFirstBody : List RibContent → ChangeBody → Type 0
IsFirstBody ribs (Announced prefix attributes) = is_held ribs prefix ≡ false
IsFirstBody ribs (Withdrawn prefix) = ⊥
IsFirstBody ribs Lost = ⊥
IsFirstBody ribs (Closed reason) = ⊥

abbrev pub IsFirstAnnouncement : List RibContent → Change → Type 0
IsFirstAnnouncement ribs change = IsFirstBody ribs change.body
