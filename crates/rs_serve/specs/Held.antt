-- The tables of a shard, by the changes that it received.
use Rattle.std.specs.Prelude.{◌≡◌, ◌<◌, ◌++◌, ◌∷◌, [], ℕ, List, length, if◌then◌else◌}
use Rattle.rs_session.specs.Change.{Change, is_close}
use Rattle.rs_table.specs.Content.{TablesContent, rib_of, rib_left}
use Rattle.rs_router.specs.RoutedItems.{of_peer}
use Rattle.rs_router.specs.declared.routed.Routed.{Routed}

-- the changes of a peer up to its close, and the close
abbrev pub through_close : List Change → List Change
through_close [] = []
through_close (change ∷ later) = if is_close change then change ∷ [] else change ∷ through_close later

-- the tables after these items: of each peer they have what its changes up to the close leave
pub record HoldReceived (new : TablesContent) (items : List Routed) (held : TablesContent) : Type 0 where
  pub plan : held.plan ≡ new.plan
  pub count : length held.ribs ≡ length new.ribs
  pub ribs : (peer : ℕ) → peer < length new.ribs → rib_of held peer ≡ rib_left (through_close (of_peer peer items))

-- the tables after some items become the tables after one more item
abbrev pub Takes : Routed → TablesContent → TablesContent → Type 0
Takes item before after =
    (new : TablesContent) (items : List Routed) → HoldReceived new items before
    → HoldReceived new (items ++ item ∷ []) after
