-- A part begins with new tables.
use Rattle.std.proofs.Common.{◌≡◌, subst, rules}
use Rattle.table_tests.specs.Parts.{IsPart}
use Rattle.table_tests.proofs.tests.parts.part.Goals as goal

pub loop-text-init : goal.loop-text-init
loop-text-init c =
    let same : c.in_ok-ok.field-0.value ≡ c.args.plan.now.value = search rules in
    (tt, tt, subst (λ plan. IsPart plan c.args.len c.in_ok-tables.tables) same (c.in_ok-tables.ensures c.args.len))
