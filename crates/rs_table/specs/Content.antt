-- The content of tables, as contracts see it.
use Rattle.std.specs.Prelude.{ℕ, Bool, false, List, slice_index_or}
use Rattle.std.specs.FinMap.{empty}
use Rattle.std.specs.List.{list_any}
use Rattle.rs_choice.specs.Plan.{Plan}
use Rattle.rs_change.specs.Change.{Change, is_close}
use Rattle.rs_table.specs.Left.{Routes, left}

-- the content of one peer: its Adj-RIB-In, which has the routes that it has left (RFC 4271, section 3.2), and
-- whether its session closed
pub record RibContent : Type 0 where
  pub routes : Routes
  pub closed : Bool

-- the plan, and the content of each peer, in the order of the peers
pub record TablesContent : Type 0 where
  pub plan : Plan
  pub ribs : List RibContent

-- a peer with no route and an open session
abbrev pub nothing_held : RibContent
nothing_held = record { routes = empty; closed = false }

-- the content of a peer whose changes these are
abbrev pub rib_left : List Change → RibContent
rib_left changes = record { routes = left changes; closed = list_any is_close changes }

-- the content of a peer by its number; empty if no peer has the number
abbrev pub rib_of : TablesContent → ℕ → RibContent
rib_of tables peer = slice_index_or tables.ribs peer nothing_held
