use Rattle.json.specs.Value.{value_view}
use Rattle.rs_import_files.specs.JsonRows.{IsRangeRow}
use Rattle.rs_import_files.proofs.ErrLemmas.{err_any}
use Rattle.rs_import_files.proofs.RowLemmas.{row_more, row_wrong}
use Rattle.rs_import_files.proofs.json_lists.ranges_of.Goals as goal

pub loop-index-preserved : goal.loop-index-preserved
loop-index-preserved c =
    rw c.in_ok-push.ensures.items
    (row_more value_view IsRangeRow c.args.rows.now c.loop-index.index c.index-rows-index.result c.loop-index.ranges.items c.in_ok-in_row.field-0
    c.loop-index-test.true c.index-rows-index.is c.loop-index.invariant (rw c.in_ok-in_row.ensures.found at c.range_of.ensures.found))

pub returns-in_err-in_row-clause-refused : goal.returns-in_err-in_row-clause-refused
returns-in_err-in_row-clause-refused c =
    let (flaw, is) = c.in_err-in_row.ensures.wrong in
    err_any c.from_residual.result (λ fault of_file.
    row_wrong value_view IsRangeRow c.args.rows.now c.loop-index.index c.index-rows-index.result c.loop-index-test.true c.index-rows-index.is
    (rw is at c.range_of.ensures.none))
