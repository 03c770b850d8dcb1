use Rattle.std.proofs.Common.{◌≡◌, true, Some, None, ◌∙◌, ap, sym, subst}
use Rattle.std.specs.BTreeMap.{BTreeMap, Updates, insert_entry}
use Rattle.std.specs.Option.{is_some, option_copied_mut}
use Rattle.rs_types.specs.IpPrefix.{IpPrefix}
use Rattle.rs_types.specs.PrefixOrder.{prefix_cmp}
use Rattle.rs_table.specs.ByPeer.{with_route}
use Rattle.rs_table.specs.Cell.{CellContent, IsKeptCellOn}
use Rattle.rs_choice.specs.Held.{sent_of_held}
use Rattle.rs_table.specs.Cells.{AreKeptCells, cell_at, routes_of}
use Rattle.rs_table.proofs.cells.CellsLemmas.{each-at, each-set, each-insert, at-update, updated}
use Rattle.rs_table.proofs.cell.HeldLemmas.{taken-alone, taken-with}
use Rattle.rs_table.proofs.cells.announce.Goals as goal

pub announce-requires-clause-cell : goal.announce-requires-clause-cell
announce-requires-clause-cell c =
    (each-at (IsKeptCellOn true c.args.plan.now) c.args.cells.now.entries c.args.prefix c.in-Some.cell.now c.requires.cells
    (sym c.in-Some.ensures.value)).is_kept

pub returns-in-Some-clause-routes : goal.returns-in-Some-clause-routes
returns-in-Some-clause-routes c =
    let m = c.args.cells.now in
    let n = c.get_mut.follows.lender c.announce.new.self in
    let found : cell_at m.entries c.args.prefix ≡ Some c.in-Some.cell.now = sym c.in-Some.ensures.value in
    updated m n c.args.prefix (λ routes. with_route routes (sent_of_held c.args.route)) (Some c.announce.new.self)
    (at-update m n c.args.prefix (Some c.announce.new.self) ((c.get_mut.follows.holds c.announce.new.self).3 (ap is_some found)))
    (c.announce.ensures.routes ∙ ap (λ cell. with_route (routes_of cell) (sent_of_held c.args.route)) (sym found))

pub returns-in-Some-clause-cells : goal.returns-in-Some-clause-cells
returns-in-Some-clause-cells c =
    subst (AreKeptCells true c.args.plan.now) (sym (c.get_mut.follows.holds c.announce.new.self).0)
    (each-set (IsKeptCellOn true c.args.plan.now) c.args.prefix c.args.cells.now.entries c.announce.new.self c.requires.cells
    (record {
      is_kept = c.announce.ensures.cell;
      taken = taken-with c.args.plan.now c.args.prefix c.in-Some.cell.now.held c.announce.new.self.held c.args.route
          (each-at (IsKeptCellOn true c.args.plan.now) c.args.cells.now.entries c.args.prefix c.in-Some.cell.now c.requires.cells
          (sym c.in-Some.ensures.value)).taken c.requires.taken c.announce.ensures.held;
    }))

pub returns-clause-routes : goal.returns-clause-routes
returns-clause-routes c =
    let m = c.args.cells.now in
    let none : cell_at m.entries c.args.prefix ≡ None = sym c.get_mut.ensures.value ∙ ap option_copied_mut c.in_default.is in
    updated m c.insert.new.self c.args.prefix (λ routes. with_route routes (sent_of_held c.args.route)) (Some c.in_ok-cell.cell)
    (at-update m c.insert.new.self c.args.prefix (Some c.in_ok-cell.cell)
    (subst (λ old. Updates prefix_cmp old c.insert.new.self c.args.prefix (Some c.in_ok-cell.cell))
    c.get_mut.follows.holds-at-none c.in_ok-insert.ensures.updates))
    (c.in_ok-cell.ensures.routes ∙ ap (λ cell. with_route (routes_of cell) (sent_of_held c.args.route)) (sym none))

pub returns-clause-cells : goal.returns-clause-cells
returns-clause-cells c =
    subst (AreKeptCells true c.args.plan.now) (sym (c.in_ok-insert.ensures.entries
    ∙ ap (λ (m : BTreeMap IpPrefix CellContent). insert_entry prefix_cmp m.entries c.args.prefix c.in_ok-cell.cell)
    c.get_mut.follows.holds-at-none))
    (each-insert (IsKeptCellOn true c.args.plan.now) c.args.cells.now.entries c.args.prefix c.in_ok-cell.cell c.requires.cells
    (record {
      is_kept = c.in_ok-cell.ensures.cell;
      taken = taken-alone c.args.plan.now c.args.prefix c.in_ok-cell.cell.held c.args.route c.requires.taken c.in_ok-cell.ensures.held;
    }))
