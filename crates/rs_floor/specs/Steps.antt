-- The tables and the lanes of all peers.
use Rattle.std.specs.Prelude.{◌≡◌, ℕ, List, Some, length, slice_get}
use Rattle.rs_table.specs.Content.{TablesContent, rib_of, rib_left}
use Rattle.rs_floor.specs.Lane.{LaneContent, lane_through, received_of}
use Rattle.rs_floor.specs.declared.counts.Counts.{Counts}
use Rattle.rs_floor.specs.declared.turn.Turn.{Turn}

-- for each peer, the tables have what its received changes leave
abbrev pub HoldReceived : TablesContent → List LaneContent → Type 0
HoldReceived tables lanes =
    (peer : ℕ) (lane : LaneContent) → slice_get lanes peer ≡ Some lane
    → rib_of tables peer ≡ rib_left (received_of lane)

-- after some turns, the counts of each peer are those that the turns give; for each peer, the tables have what its
-- received changes leave
pub record IsEnd (turns : List Turn) (lanes : List LaneContent) (counts : List Counts)
    (tables : TablesContent) : Type 0 where
  pub counted : length counts ≡ length lanes
  pub counts_are : (peer : ℕ) (lane : LaneContent) → slice_get lanes peer ≡ Some lane
      → slice_get counts peer ≡ Some ((lane_through turns peer lane).counts)
  pub held : (peer : ℕ) (lane : LaneContent) → slice_get lanes peer ≡ Some lane
      → rib_of tables peer ≡ rib_left (received_of (lane_through turns peer lane))
