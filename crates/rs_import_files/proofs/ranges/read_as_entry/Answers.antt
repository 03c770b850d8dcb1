use Rattle.rs_import_files.proofs.FormLemmas.{no_entry}
use Rattle.rs_import_files.proofs.NoneLemmas.{none_so}
use Rattle.rs_import_files.proofs.ranges.read_as_entry.Goals as goal

pub returns-in-None-clause-none : goal.returns-in-None-clause-none
returns-in-None-clause-none c =
    none_so c.span.result (no_entry c.args.text.now c.in-None.ensures.none) c.span.ensures.none
