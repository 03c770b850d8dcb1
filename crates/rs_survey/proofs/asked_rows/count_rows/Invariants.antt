use Rattle.std.specs.Prelude.{◌≡◌, ◌≤◌, ◌+◌, count_by, min}
use Rattle.rs_table.specs.Table.{table_of}
use Rattle.rs_survey.specs.Asked.{is_asked}
use Rattle.rs_survey.specs.Tally.{most}
use Rattle.rs_survey.proofs.asked_rows.count_rows.Given as goal

-- the count, with the rows to come that are asked for, is that of all
abbrev pub invariant-loop-row : goal.invariant-loop-row
invariant-loop-row l = record {
  bound : l.count ≤ most;
  all : min (l.count + count_by (is_asked l.asked) l.row-iterator) most
      ≡ min (count_by (is_asked l.asked) (table_of l.tables l.client)) most;
}
