use Rattle.std.proofs.Common.{◌≡◌, false, get_or, rules, sym, ap, ◌∙◌}
use Rattle.rs_table.specs.Content.{rib_of}
use Rattle.rs_table.proofs.tables.TablesLemmas.{rib-closed}
use Rattle.rs_table.proofs.tables.Tables.is_closed.Goals as goal

pub returns-in-Some : goal.returns-in-Some
returns-in-Some c =
    let here : c.in-Some.closed.now ≡ get_or c.self.inside.closed.items c.args.peer false = search rules in
    here
    ∙ sym (rib-closed c.self.inside.plan.value c.self.inside.cells.entries c.self.inside.closed.items c.args.peer)
    ∙ ap (λ tables. (rib_of tables c.args.peer).closed) c.self.view_is

pub returns-in-None : goal.returns-in-None
returns-in-None c =
    let here : false ≡ get_or c.self.inside.closed.items c.args.peer false = search rules in
    here
    ∙ sym (rib-closed c.self.inside.plan.value c.self.inside.cells.entries c.self.inside.closed.items c.args.peer)
    ∙ ap (λ tables. (rib_of tables c.args.peer).closed) c.self.view_is
