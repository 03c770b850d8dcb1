use Rattle.std.proofs.Common.{length, sym, ap, ◌∙◌}
use Rattle.rs_table.specs.Gathered.{routes_gathered}
use Rattle.rs_table.proofs.cells.CellsLemmas.{by-length}
use Rattle.rs_table.proofs.gathering.Gathering.count.Goals as goal

pub returns-clause-ribs : goal.returns-clause-ribs
returns-clause-ribs c =
    c.count.ensures.value
    ∙ ap (λ plan. length plan.peers) c.deref.ensures
    ∙ sym c.self.invariant.peers
    ∙ sym (by-length (routes_gathered c.self.inside.losses.items c.self.inside.logs.items) 0 c.self.inside.closed.items)
    ∙ ap (λ tables. length tables.ribs) c.self.view_is
