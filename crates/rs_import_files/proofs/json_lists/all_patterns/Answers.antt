use Rattle.std.proofs.Common.{◌++◌}
use Rattle.rs_import_files.specs.JsonRows.{ArePatternRows, IsPatternRow, counts}
use Rattle.rs_import_files.proofs.ErrLemmas.{passed_on}
use Rattle.rs_import_files.proofs.RowLemmas.{kept_append, kept_split, lists_more, no_lists}
use Rattle.rs_import_files.proofs.json_lists.all_patterns.Goals as goal

pub loop-member-preserved : goal.loop-member-preserved
loop-member-preserved c =
    let (rows, lists, are) = c.loop-member.invariant in
    let (front, list, found) = c.in_ok-found.ensures.found in (
      rows ++ front,
      lists_more c.args.members.now c.loop-member.member-index c.member-item.result rows front c.loop-member-test.true c.member-item.is lists list,
      rw (c.in_ok-extend_from_slice.ensures.items, c.as_slice.ensures.value)
          (kept_append counts IsPatternRow rows front c.loop-member.patterns.items c.in_ok-found.found.items are found),
    )

pub returns-in_err-found-clause-refused : goal.returns-in_err-found-clause-refused
returns-in_err-found-clause-refused c =
    passed_on _ c.in_err-found.field-0.0 c.from_residual.result c.from_residual.ensures.1 (λ of_file.
    no_lists ArePatternRows (kept_split counts IsPatternRow) c.args.members.now c.loop-member.member-index c.member-item.result c.loop-member-test.true c.member-item.is
    (c.in_err-found.ensures.refused of_file))
