use Rattle.std.proofs.Common.{sym, ap, ◌∙◌, option_map}
use Rattle.toml.specs.View.{view}
use Rattle.toml.proofs.Views.{table_get}
use Rattle.rs_setup.proofs.keys.Section.needs.Goals as goal

pub returns-in-Some : goal.returns-in-Some
returns-in-Some c =
    let found = table_get c.get.result c.args.key.now c.args.self.now.table.now.entries c.get.ensures.value in
    sym found ∙ ap (option_map (λ value. view value.now)) c.in-Some.is
