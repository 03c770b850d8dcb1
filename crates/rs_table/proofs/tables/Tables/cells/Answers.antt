use Rattle.std.proofs.Common.{◌<◌, length, ap, sym, arith, ◌∙◌}
use Rattle.std.specs.Option.{option_map}
use Rattle.rs_table.specs.ByPeer.{route_at}
use Rattle.rs_table.specs.Cells.{routes_of}
use Rattle.rs_table.specs.Listing.{is_held}
use Rattle.rs_table.specs.Table.{sent_by, best_of, route_from}
use Rattle.rs_table.proofs.cells.CellsLemmas.{cell-IsCell}
use Rattle.rs_table.proofs.prefixes.HeldLemmas.{cell-held}
use Rattle.rs_table.proofs.tables.TablesLemmas.{best-some, none_held, route-from}
use Rattle.rs_table.proofs.tables.Tables.cells.Goals as goal

pub returns-clause-bests : goal.returns-clause-bests
returns-clause-bests c = λ client prefix cell found.
    best-some c.self.inside.plan.value c.self.inside.cells.entries c.self.inside.closed.items c.self.invariant.peers c.self.invariant.cells
    client prefix cell found
    ∙ ap (λ tables. best_of tables client prefix) c.self.view_is

pub returns-clause-none : goal.returns-clause-none
returns-clause-none c = λ prefix none.
    sym (ap (λ tables. is_held tables.ribs prefix) c.self.view_is)
    ∙ none_held c.self.inside.cells.entries prefix none 0 c.self.inside.closed.items

pub returns-clause-routes : goal.returns-clause-routes
returns-clause-routes c = λ peer prefix cell known found.
    let is_peer : peer < length c.self.inside.plan.value.peers =
    omega (arith, known, ap (λ tables. length tables.plan.peers) c.self.view_is) in
    ap (λ cell. option_map (sent_by peer) (route_at (routes_of cell) peer)) (sym found)
    ∙ sym (route-from c.self.inside.plan.value c.self.inside.cells.entries c.self.inside.closed.items c.self.invariant.peers prefix peer
    is_peer)
    ∙ ap (λ tables. route_from tables prefix peer) c.self.view_is

pub returns-clause-some : goal.returns-clause-some
returns-clause-some c = λ prefix cell found.
    sym (ap (λ tables. is_held tables.ribs prefix) c.self.view_is)
    ∙ cell-held c.self.inside.cells.entries prefix c.self.inside.plan.value cell c.self.inside.closed.items c.self.invariant.peers
    (cell-IsCell c.self.inside.plan.value c.self.inside.cells.entries prefix cell c.self.invariant.cells found) found
