use Rattle.std.proofs.Common.{◌≡◌, true, Some, None, refl, ◌∙◌, ap, sym, subst}
use Rattle.std.specs.BTreeMap.{is_at}
use Rattle.std.specs.Map.{remove_entry}
use Rattle.std.specs.Option.{is_some}
use Rattle.rs_types.specs.PrefixOrder.{prefix_cmp}
use Rattle.rs_table.specs.ByPeer.{without_route}
use Rattle.rs_table.specs.Cell.{IsKeptCellOn}
use Rattle.rs_table.specs.Cells.{AreKeptCells, cell_at, routes_of}
use Rattle.rs_table.proofs.cells.CellsLemmas.{each-at, each-set, each-removed, at-update, updated, removed_after}
use Rattle.rs_table.proofs.cell.HeldLemmas.{taken-without}
use Rattle.rs_table.proofs.cells.withdraw.Goals as goal

pub withdraw-requires : goal.withdraw-requires
withdraw-requires c =
    (each-at (IsKeptCellOn true c.args.plan.now) c.args.cells.now.entries c.args.prefix c.in-Some.cell.now c.requires
    (sym c.in-Some.ensures.value)).is_kept

pub returns-then-not-withdraw-clause-routes : goal.returns-then-not-withdraw-clause-routes
returns-then-not-withdraw-clause-routes c =
    let m = c.args.cells.now in
    let w = c.withdraw.new.self in
    let l = c.get_mut.follows.lender w in
    let found : cell_at m.entries c.args.prefix ≡ Some c.in-Some.cell.now = sym c.in-Some.ensures.value in
    updated m c.remove.new.self c.args.prefix (λ routes. without_route routes c.args.peer) None
    (removed_after m l c.remove.new.self c.args.prefix w ((c.get_mut.follows.holds w).3 (ap is_some found)) c.remove.ensures.updates)
    (sym (c.if-not-withdraw.ensures.none refl) ∙ c.withdraw.ensures.routes
    ∙ ap (λ cell. without_route (routes_of cell) c.args.peer) (sym found))

pub returns-then-not-withdraw-clause-cells : goal.returns-then-not-withdraw-clause-cells
returns-then-not-withdraw-clause-cells c =
    let w = c.withdraw.new.self in
    let test = is_at (prefix_cmp c.args.prefix) in
    subst (AreKeptCells true c.args.plan.now) (sym (c.remove.ensures.entries ∙ ap (remove_entry test) (c.get_mut.follows.holds w).0))
    (each-removed (IsKeptCellOn true c.args.plan.now) test c.args.cells.now.entries w c.requires)

pub returns-else-not-withdraw-clause-routes : goal.returns-else-not-withdraw-clause-routes
returns-else-not-withdraw-clause-routes c =
    let m = c.args.cells.now in
    let w = c.withdraw.new.self in
    let n = c.get_mut.follows.lender w in
    let found : cell_at m.entries c.args.prefix ≡ Some c.in-Some.cell.now = sym c.in-Some.ensures.value in
    updated m n c.args.prefix (λ routes. without_route routes c.args.peer) (Some w)
    (at-update m n c.args.prefix (Some w) ((c.get_mut.follows.holds w).3 (ap is_some found)))
    (c.withdraw.ensures.routes ∙ ap (λ cell. without_route (routes_of cell) c.args.peer) (sym found))

pub returns-else-not-withdraw-clause-cells : goal.returns-else-not-withdraw-clause-cells
returns-else-not-withdraw-clause-cells c =
    let w = c.withdraw.new.self in
    subst (AreKeptCells true c.args.plan.now) (sym (c.get_mut.follows.holds w).0)
    (each-set (IsKeptCellOn true c.args.plan.now) c.args.prefix c.args.cells.now.entries w c.requires
    (record {
      is_kept = c.if-not-withdraw.ensures.some refl;
      taken = taken-without c.args.plan.now c.args.prefix c.in-Some.cell.now.held w.held c.args.peer c.withdraw.ensures.held
          (each-at (IsKeptCellOn true c.args.plan.now) c.args.cells.now.entries c.args.prefix c.in-Some.cell.now c.requires
          (sym c.in-Some.ensures.value)).taken;
    }))
