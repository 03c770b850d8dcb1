-- How many routes each peer has left.
use Rattle.std.specs.Prelude.{◌≡◌, ◌<◌, ℕ, Bool, true, false, List, length, slice_index_or}
use Rattle.std.specs.FinMap.{len}
use Rattle.rs_change.specs.Change.{Change, ChangeBody, Announced, Withdrawn, Lost, Closed}
use Rattle.rs_table.specs.Cells.{Entries, routes_from}

-- how many routes a peer has in some cells: the number of prefixes on which it has one
abbrev pub route_count : Entries → ℕ → ℕ
route_count entries peer = len (routes_from entries peer)

-- the counts of the first peers are right
pub record AreCounts (entries : Entries) (peers : ℕ) (counts : List ℕ) : Type 0 where
  pub long : length counts ≡ peers
  pub each : (peer : ℕ) → peer < peers → slice_index_or counts peer 0 ≡ route_count entries peer

-- whether a change announces a route
abbrev pub body_announces : ChangeBody → Bool
body_announces (Announced prefix attributes) = true
body_announces (Withdrawn prefix) = false
body_announces Lost = false
body_announces (Closed reason) = false

abbrev pub announces : Change → Bool
announces change = body_announces change.body
