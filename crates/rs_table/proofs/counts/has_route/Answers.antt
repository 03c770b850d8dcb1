use Rattle.std.proofs.Common.{◌≡◌, ◌∙◌, Some, None, ap, sym}
use Rattle.std.specs.Option.{option_copied}
use Rattle.rs_table.specs.Cells.{cell_at}
use Rattle.rs_table.proofs.counts.CountLemmas.{has-at}
use Rattle.rs_table.proofs.counts.has_route.Goals as goal

pub returns-in-Some : goal.returns-in-Some
returns-in-Some c =
    let found : cell_at c.args.cells.now.entries c.args.prefix ≡ Some c.in-Some.cell.now =
    sym c.get.ensures.value ∙ ap option_copied c.in-Some.is in
    c.has_route.ensures ∙ has-at c.args.cells.now.entries c.args.prefix c.args.peer (Some c.in-Some.cell.now) found

pub returns-in-None : goal.returns-in-None
returns-in-None c =
    let none : cell_at c.args.cells.now.entries c.args.prefix ≡ None = sym c.get.ensures.value ∙ ap option_copied c.in-None.is in
    has-at c.args.cells.now.entries c.args.prefix c.args.peer None none
