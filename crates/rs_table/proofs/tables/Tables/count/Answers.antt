use Rattle.std.proofs.Common.{length, sym, ap, ◌∙◌}
use Rattle.rs_table.proofs.cells.CellsLemmas.{length-ribs}
use Rattle.rs_table.proofs.tables.Tables.count.Goals as goal

pub returns-clause-ribs : goal.returns-clause-ribs
returns-clause-ribs c =
    c.count.ensures.value
    ∙ ap (λ plan. length plan.peers) c.deref.ensures
    ∙ sym c.self.invariant.peers
    ∙ sym (length-ribs c.self.inside.cells.entries 0 c.self.inside.closed.items)
    ∙ ap (λ tables. length tables.ribs) c.self.view_is
