-- A cell by its fields.
use Rattle.std.specs.Prelude.{vec_capacity}
use Rattle.rs_table.specs.declared.cell.Cell.TheInside.{Inside}
use Rattle.rs_table.specs.ByPeer.{IsAscending}
use Rattle.rs_table.specs.Cell.{CellContent}

abbrev pub cell_view : Inside → CellContent
cell_view fields =
    record { held = fields.held.items; bests = fields.bests.items; room = vec_capacity fields.held }

-- the routes are in ascending order of their peers
abbrev pub IsKept : Inside → Type 0
IsKept fields = IsAscending fields.held.items
