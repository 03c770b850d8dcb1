-- The tables are the same, and a dump is a function of them.
use Rattle.std.proofs.Common.{ap, sym, ◌∙◌}
use Rattle.rs_table.specs.Content.{TablesContent}
use Rattle.rs_floor.specs.Laws.{dump_of}
use Rattle.rs_floor.proofs.laws.drained_schedules_dump_alike.Goals as goal

pub returns-clause-files : goal.returns-clause-files
returns-clause-files c = λ plan files capacity turns floor replayed drained client time.
    ap (λ (tables : TablesContent). dump_of tables client time)
    (c.drained_schedules_agree.ensures plan files capacity turns floor replayed drained)

pub returns-clause-agree : goal.returns-clause-agree
returns-clause-agree c =
    λ plan files capacity other_capacity turns other_turns one other replayed drained other_replayed other_drained client time.
    ap (λ (tables : TablesContent). dump_of tables client time)
    (c.drained_schedules_agree.ensures plan files capacity turns one replayed drained
    ∙ sym (c.drained_schedules_agree.ensures plan files other_capacity other_turns other other_replayed other_drained))
