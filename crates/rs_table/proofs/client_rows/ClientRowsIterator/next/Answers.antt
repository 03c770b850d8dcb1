-- Each answer is one search, so that a wrong body is refused soon.
use Rattle.std.proofs.Common.{rules}
use Rattle.rs_table.proofs.client_rows.ClientRowsIterator.next.Goals as goal

pub loop-entry-init : goal.loop-entry-init
loop-entry-init c = search rules

pub loop-entry-preserved : goal.loop-entry-preserved
loop-entry-preserved c = search rules

pub loop-entry-smaller : goal.loop-entry-smaller
loop-entry-smaller c = search rules
