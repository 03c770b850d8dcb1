use Rattle.rs_import_files.specs.Lines.{is_entry, said_by}
use Rattle.rs_import_files.specs.Texts.{IsAsEntry}
use Rattle.rs_import_files.proofs.ErrLemmas.{err_any}
use Rattle.rs_import_files.proofs.LineLemmas.{line_kept, line_passed, none_line}
use Rattle.rs_import_files.proofs.lines.ranges_of.Goals as goal
use Rattle.rs_import_files.proofs.lines.ranges_of.Goals.{in-Some+in_ok-push, in_default}

pub loop-index-preserved : goal.loop-index-preserved
loop-index-preserved c =
    let read = rw c.in_ok-range.ensures.found at c.range_said.ensures.found in
    elim c.match-branch-2.branch [
      | in-Some+in_ok-push w ↦
          let said = rw w.in-Some.is at read in
          rw (w.ranges-is, w.in_ok-push.ensures.items)
          (line_kept is_entry (λ line entry. IsAsEntry (said_by line) entry) c.args.lines.now c.loop-index.index _ c.loop-index.ranges.items
          w.in-Some.range c.loop-index-test.true said.0 c.loop-index.invariant said.1)
      | in_default w ↦
          rw w.ranges-is
          (line_passed is_entry (λ line entry. IsAsEntry (said_by line) entry) c.args.lines.now c.loop-index.index _ c.loop-index.ranges.items
          c.loop-index-test.true (rw w.in_default.is at read) c.loop-index.invariant)
    ]

pub returns-in_err-range-clause-refused : goal.returns-in_err-range-clause-refused
returns-in_err-range-clause-refused c =
    let (flaw, is) = c.in_err-range.ensures.wrong in
    let none = rw is at c.range_said.ensures.none in
    err_any c.from_residual.result (λ fault of_file.
    none_line is_entry (λ line entry. IsAsEntry (said_by line) entry) c.args.lines.now c.loop-index.index _ c.loop-index-test.true none.0 none.1)
