use Rattle.std.proofs.Common.{◌≡◌, ◌<◌, length, Some, None, sym, ap, arith, ◌∙◌}
use Rattle.std.specs.Option.{option_map, option_copied}
use Rattle.rs_table.specs.ByPeer.{route_at}
use Rattle.rs_table.specs.Cells.{cell_at, routes_of}
use Rattle.rs_table.specs.RouteView.{sent_route_of}
use Rattle.rs_table.specs.Table.{sent_by, route_from}
use Rattle.rs_table.proofs.tables.TablesLemmas.{route-from}
use Rattle.rs_table.proofs.tables.Tables.route.Goals as goal

pub returns-in_err-get : goal.returns-in_err-get
returns-in_err-get c =
    let none : cell_at c.self.inside.cells.entries c.args.prefix ≡ None = sym c.get.ensures.value ∙ ap option_copied c.in_err-get.was in
    let known : c.args.peer < length c.self.inside.plan.value.peers =
    omega (arith, c.requires, ap (λ tables. length tables.plan.peers) c.self.view_is) in
    ap (option_map sent_route_of) c.from_residual.ensures
    ∙ ap (λ cell. option_map (sent_by c.args.peer) (route_at (routes_of cell) c.args.peer)) (sym none)
    ∙ sym (route-from c.self.inside.plan.value c.self.inside.cells.entries c.self.inside.closed.items c.self.invariant.peers c.args.prefix
    c.args.peer known)
    ∙ ap (λ tables. route_from tables c.args.prefix c.args.peer) c.self.view_is

pub returns : goal.returns
returns c =
    let found : cell_at c.self.inside.cells.entries c.args.prefix ≡ Some c.in_ok-get.field-0.now =
    sym c.get.ensures.value ∙ ap option_copied c.in_ok-get.was in
    let known : c.args.peer < length c.self.inside.plan.value.peers =
    omega (arith, c.requires, ap (λ tables. length tables.plan.peers) c.self.view_is) in
    c.route.ensures
    ∙ ap (λ cell. option_map (sent_by c.args.peer) (route_at (routes_of cell) c.args.peer)) (sym found)
    ∙ sym (route-from c.self.inside.plan.value c.self.inside.cells.entries c.self.inside.closed.items c.self.invariant.peers c.args.prefix
    c.args.peer known)
    ∙ ap (λ tables. route_from tables c.args.prefix c.args.peer) c.self.view_is
