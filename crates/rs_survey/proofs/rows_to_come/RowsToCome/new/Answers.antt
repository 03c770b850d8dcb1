-- They are all rows of the client, or none of one that is absent.
use Rattle.std.proofs.Common.{◌∙◌}
use Rattle.rs_survey.specs.RowsToCome.{rows_in}
use Rattle.rs_survey.proofs.RowLemmas.{all-of-client, first-of-all, none-of-absent}
use Rattle.rs_survey.proofs.rows_to_come.RowsToCome.new.Goals as goal
use Rattle.rs_survey.proofs.rows_to_come.RowsToCome.new.Goals.{in-Some, in-None}

pub invariant_of-result : goal.invariant_of-result
invariant_of-result c =
    let tables = c.args.tables.now in
    let client = c.match-client.client in
    let rest = c.match-client.rest in
    let are = first-of-all tables client (rows_in rest) c.next_row-first.result (rows_in c.next_row-first.new.rows)
    (elim c.match-client.branch [
      | in-Some w ↦ all-of-client tables client w.in-Some.number rest w.iter_rows.result w.client-is w.rest-is
          w.iter_rows.ensures.table
      | in-None w ↦ none-of-absent tables client rest (w.client-is ∙ w.in-None.is) w.rest-is
    ]) c.next_row-first.ensures in
    record { ends = are.0; are_all = are.1 }
