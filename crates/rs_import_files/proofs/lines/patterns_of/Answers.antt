use Rattle.rs_import_files.specs.Lines.{is_ipv4_entry, said_by}
use Rattle.rs_import_files.specs.Texts.{IsPattern}
use Rattle.rs_import_files.proofs.ErrLemmas.{err_any}
use Rattle.rs_import_files.proofs.LineLemmas.{line_kept, line_passed, none_line}
use Rattle.rs_import_files.proofs.lines.patterns_of.Goals as goal
use Rattle.rs_import_files.proofs.lines.patterns_of.Goals.{in-Some+in_ok-push, in_default}

pub loop-index-preserved : goal.loop-index-preserved
loop-index-preserved c =
    let read = rw c.in_ok-pattern.ensures.found at c.pattern_said.ensures.found in
    elim c.match-branch-2.branch [
      | in-Some+in_ok-push w ↦
          let said = rw w.in-Some.is at read in
          rw (w.patterns-is, w.in_ok-push.ensures.items)
          (line_kept is_ipv4_entry (λ line entry. IsPattern (said_by line) entry) c.args.lines.now c.loop-index.index _ c.loop-index.patterns.items
          w.in-Some.pattern c.loop-index-test.true said.0 c.loop-index.invariant said.1)
      | in_default w ↦
          rw w.patterns-is
          (line_passed is_ipv4_entry (λ line entry. IsPattern (said_by line) entry) c.args.lines.now c.loop-index.index _ c.loop-index.patterns.items
          c.loop-index-test.true (rw w.in_default.is at read) c.loop-index.invariant)
    ]

pub returns-in_err-pattern-clause-refused : goal.returns-in_err-pattern-clause-refused
returns-in_err-pattern-clause-refused c =
    let (flaw, is) = c.in_err-pattern.ensures.wrong in
    let none = rw is at c.pattern_said.ensures.none in
    err_any c.from_residual.result (λ fault of_file.
    none_line is_ipv4_entry (λ line entry. IsPattern (said_by line) entry) c.args.lines.now c.loop-index.index _ c.loop-index-test.true none.0 none.1)
