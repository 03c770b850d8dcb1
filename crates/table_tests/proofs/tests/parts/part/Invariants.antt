use Rattle.table_tests.specs.Parts.{IsPart}
use Rattle.table_tests.proofs.tests.parts.part.Given as goal

-- the changes so far left a part of that length
abbrev pub invariant-loop-text : goal.invariant-loop-text
invariant-loop-text l =
    (goal.iterator-loop-text).can_next l.text-iterator ×
    (goal.iterator-loop-text).is_finite l.text-iterator ×
    IsPart l.plan.value l.len l.tables
