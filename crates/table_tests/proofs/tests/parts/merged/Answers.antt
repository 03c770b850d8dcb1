-- The three parts can be made one.
use Rattle.std.proofs.Common.{◌≡◌, [], ◌∷◌, rules}
use Rattle.table_tests.proofs.PartsLemmas.{three-parts}
use Rattle.table_tests.proofs.tests.parts.merged.Goals as goal

pub merge-requires-clause-parts : goal.merge-requires-clause-parts
merge-requires-clause-parts c =
    let items : c.in_ok-parts.parts.items ≡ c.in_ok-short.short ∷ c.in_ok-middle.middle ∷ c.in_ok-long.long ∷ [] = search rules in
    rw items (three-parts c.in_ok-plan.plan.value c.in_ok-short.short c.in_ok-middle.middle c.in_ok-long.long
    c.in_ok-short.ensures c.in_ok-middle.ensures c.in_ok-long.ensures)
