use Rattle.std.proofs.Common.{◌≡◌, ◌++◌}
use Rattle.rs_update.specs.Found.{spelled_section}
use Rattle.rs_types.specs.Section.{items_of}
use Rattle.rs_update.proofs.found.FindLemmas.{spelled_from}
use Rattle.rs_update.proofs.spelling.spell.Given as goal

abbrev pub invariant-loop-kind : goal.invariant-loop-kind
invariant-loop-kind l = l.out.items ++ spelled_from (items_of l.section) l.kind ≡ spelled_section (items_of l.section)
