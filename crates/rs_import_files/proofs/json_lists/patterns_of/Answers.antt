use Rattle.json.specs.Value.{value_view}
use Rattle.rs_import_files.specs.JsonRows.{IsPatternRow, counts}
use Rattle.rs_import_files.proofs.ErrLemmas.{err_any}
use Rattle.rs_import_files.proofs.RowLemmas.{row_kept, row_none, row_passed}
use Rattle.rs_import_files.proofs.json_lists.patterns_of.Goals as goal
use Rattle.rs_import_files.proofs.json_lists.patterns_of.Goals.{in-Some+in_ok-push, in_default}

pub loop-index-preserved : goal.loop-index-preserved
loop-index-preserved c =
    let read = rw c.in_ok-pattern.ensures.found at c.pattern_of.ensures.found in
    elim c.match-branch-2.branch [
      | in-Some+in_ok-push w ↦
          let vrp = rw w.in-Some.is at read in
          rw (w.patterns-is, w.in_ok-push.ensures.items)
          (row_kept value_view IsPatternRow counts c.args.rows.now c.loop-index.index c.index-rows-index.result c.loop-index.patterns.items w.in-Some.pattern
          c.loop-index-test.true c.index-rows-index.is vrp.0 c.loop-index.invariant vrp.1)
      | in_default w ↦
          rw w.patterns-is
          (row_passed value_view IsPatternRow counts c.args.rows.now c.loop-index.index c.index-rows-index.result c.loop-index.patterns.items
          c.loop-index-test.true c.index-rows-index.is (rw w.in_default.is at read) c.loop-index.invariant)
    ]

pub returns-in_err-pattern-clause-refused : goal.returns-in_err-pattern-clause-refused
returns-in_err-pattern-clause-refused c =
    let (flaw, is) = c.in_err-pattern.ensures.wrong in
    let none = rw is at c.pattern_of.ensures.none in
    err_any c.from_residual.result (λ fault of_file.
    row_none value_view IsPatternRow counts c.args.rows.now c.loop-index.index c.index-rows-index.result c.loop-index-test.true c.index-rows-index.is
    none.0 none.1)
