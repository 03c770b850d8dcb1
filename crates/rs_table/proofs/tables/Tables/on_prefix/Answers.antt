-- A prefix without a cell is no peer's; else its cell has the routes and the choices.
use Rattle.std.proofs.Common.{◌≡◌, false, sym, ap, None, ◌∙◌}
use Rattle.std.specs.Option.{option_copied, option_map}
use Rattle.rs_table.specs.Cells.{cell_at}
use Rattle.rs_table.specs.Listing.{is_held}
use Rattle.rs_table.specs.Table.{sent_by}
use Rattle.rs_table.proofs.MergeLemmas.{held-none}
use Rattle.rs_table.proofs.tables.Tables.on_prefix.Goals as goal

pub returns-in_err-cell-clause-none : goal.returns-in_err-cell-clause-none
returns-in_err-cell-clause-none c =
    let none : cell_at c.cells.result.now.entries c.args.prefix ≡ None = sym c.get.ensures.value ∙ ap option_copied c.in_err-cell.was in
    let held : is_held c.args.self.now.ribs c.args.prefix ≡ false = c.cells.ensures.none c.args.prefix none in
    rw c.from_residual.ensures (λ peer. ap (option_map (sent_by peer)) (held-none c.args.self.now.ribs c.args.prefix held peer))
