-- The cell of the prefix comes to the others.
use Rattle.std.proofs.Common.{◌∙◌, Some, ap, refl, subst, sym, inl, inr}
use Rattle.std.proofs.lemmas.Bool.{cases_Bool}
use Rattle.rs_types.specs.PrefixOrder.{same_prefix}
use Rattle.rs_choice.specs.Held.{AreTakenBy}
use Rattle.rs_table.specs.Cell.{IsKeptCellOn}
use Rattle.rs_table.specs.Cells.{AreKeptCells, routes_of}
use Rattle.rs_table.proofs.cells.CellsLemmas.{each-insert, at-update}
use Rattle.rs_table.proofs.settling.Making.close.Goals as goal

pub returns-clause-routes : goal.returns-clause-routes
returns-clause-routes c = λ q.
    let making = c.args.self.now in
    ap routes_of (at-update making.cells c.insert.new.self making.prefix (Some c.in_ok-cell.cell) c.in_ok-insert.ensures.updates q)
    ∙ elim (cases_Bool (same_prefix q making.prefix)) [
      | inl here ↦ rw here c.in_ok-cell.ensures.routes
      | inr there ↦ rw there refl
    ]

pub returns-clause-cells : goal.returns-clause-cells
returns-clause-cells c =
    let making = c.args.self.now in
    subst (AreKeptCells c.args.keeps_room c.args.plan.now) (sym c.in_ok-insert.ensures.entries)
    (each-insert (IsKeptCellOn c.args.keeps_room c.args.plan.now)
    making.cells.entries making.prefix c.in_ok-cell.cell c.requires.cells (record {
      is_kept = c.in_ok-cell.ensures.cell;
      taken = subst (AreTakenBy c.args.plan.now making.prefix) (sym c.in_ok-cell.ensures.held) c.requires.taken;
    }))
