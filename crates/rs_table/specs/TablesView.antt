-- The tables by their fields.
use Rattle.std.specs.Prelude.{◌≡◌, ◌⊎◌, ℕ, Bool, true, List, All, map, length}
use Rattle.std.specs.List.{enumerate_from}
use Rattle.rs_table.specs.declared.tables.Tables.TheInside.{Inside}
use Rattle.rs_table.specs.Content.{RibContent, TablesContent}
use Rattle.rs_table.specs.Cells.{Entries, AreCells, AreKeptCells, routes_from}
use Rattle.rs_table.specs.Counts.{AreCounts}
use Rattle.rs_table.specs.Left.{Routes}
use Rattle.rs_choice.specs.Plan.{Plan}

-- the content of each peer from this number on, by its routes
abbrev pub ribs_by : (ℕ → Routes) → ℕ → List Bool → List RibContent
ribs_by routes first closed =
    map (λ (peer, is_closed). record { routes = routes peer; closed = is_closed }) (enumerate_from first closed)

abbrev pub ribs_from : Entries → ℕ → List Bool → List RibContent
ribs_from entries first closed = ribs_by (routes_from entries) first closed

abbrev pub tables_view : Inside → TablesContent
tables_view fields = record { plan = fields.plan.value; ribs = ribs_from fields.cells.entries 0 fields.closed.items }

-- no session is open, so that no change can come
abbrev pub AllClosed : List Bool → Type 0
AllClosed closed = All (λ is_closed. is_closed ≡ true) closed

-- changes may come: the cells have room for them, and the routes of each peer are counted
pub record TakeChanges (plan : Plan) (entries : Entries) (counts : List ℕ) : Type 0 where
  pub room : AreKeptCells true plan entries
  pub counted : AreCounts entries (length plan.peers) counts

-- Each peer of the plan is open or closed, and the cells are those of the plan. The tables take changes while a
-- session is open.
pub record AreTables (fields : Inside) : Type 0 where
  pub peers : length fields.closed.items ≡ length fields.plan.value.peers
  pub cells : AreCells fields.plan.value fields.cells.entries
  pub open_or_not : AllClosed fields.closed.items
      ⊎ TakeChanges fields.plan.value fields.cells.entries fields.counts.items
