-- The tables that are served are of the plan.
use Rattle.std.proofs.Common.{ap}
use Rattle.rs_table.specs.Content.{TablesContent}
use Rattle.rs_glass_shell.proofs.serving.serve.Goals as goal

pub returns-in-Ok : goal.returns-in-Ok
returns-in-Ok g c = ap (λ (tables : TablesContent). tables.plan) c.in-Ok.ensures.answer.1.2.tables_are
