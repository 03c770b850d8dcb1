use Rattle.std.proofs.Common.{length, sym, ap, ◌∙◌}
use Rattle.rs_table.specs.Content.{rib_of}
use Rattle.rs_table.proofs.cells.CellsLemmas.{length-ribs}
use Rattle.rs_table.proofs.tables.TablesLemmas.{rib-closed}
use Rattle.rs_table.proofs.tables.Tables.into_peers.Goals as goal

pub returns-clause-count : goal.returns-clause-count
returns-clause-count c =
    sym (length-ribs c.self.inside.cells.entries 0 c.self.inside.closed.items) ∙ ap (λ tables. length tables.ribs) c.self.view_is

pub returns-clause-closed : goal.returns-clause-closed
returns-clause-closed c = λ peer.
    sym (rib-closed c.self.inside.plan.value c.self.inside.cells.entries c.self.inside.closed.items peer)
    ∙ ap (λ tables. (rib_of tables peer).closed) c.self.view_is
