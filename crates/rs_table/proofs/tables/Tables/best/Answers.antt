use Rattle.std.proofs.Common.{◌≡◌, Some, None, sym, ap, ◌∙◌}
use Rattle.std.specs.Option.{option_map, option_copied}
use Rattle.rs_table.specs.Cells.{cell_at}
use Rattle.rs_table.specs.RouteView.{sent_route_of}
use Rattle.rs_table.specs.Table.{best_of}
use Rattle.rs_table.proofs.tables.TablesLemmas.{best-none, best-some}
use Rattle.rs_table.proofs.tables.Tables.best.Goals as goal

pub returns-in_err-get : goal.returns-in_err-get
returns-in_err-get c =
    let none : cell_at c.self.inside.cells.entries c.args.prefix ≡ None = sym c.get.ensures.value ∙ ap option_copied c.in_err-get.was in
    ap (option_map sent_route_of) c.from_residual.ensures
    ∙ sym (best-none c.self.inside.plan.value c.self.inside.cells.entries c.self.inside.closed.items c.self.invariant.peers
    c.self.invariant.cells c.args.client c.args.prefix none)
    ∙ ap (λ tables. best_of tables c.args.client c.args.prefix) c.self.view_is

pub returns : goal.returns
returns c =
    let found : cell_at c.self.inside.cells.entries c.args.prefix ≡ Some c.in_ok-get.field-0.now =
    sym c.get.ensures.value ∙ ap option_copied c.in_ok-get.was in
    c.best.ensures
    ∙ best-some c.self.inside.plan.value c.self.inside.cells.entries c.self.inside.closed.items c.self.invariant.peers
    c.self.invariant.cells c.args.client c.args.prefix c.in_ok-get.field-0.now found
    ∙ ap (λ tables. best_of tables c.args.client c.args.prefix) c.self.view_is
