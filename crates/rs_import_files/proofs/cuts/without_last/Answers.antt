use Rattle.std.proofs.Common.{arith}
use Rattle.rs_import_files.proofs.NoneLemmas.{last_part, no_last_part}
use Rattle.rs_import_files.proofs.cuts.without_last.Goals as goal

pub returns-clause-found : goal.returns-clause-found
returns-clause-found c = last_part c.args.mark c.args.text.now (omega arith) c.strip_suffix.result c.strip_suffix.ensures.cases

pub returns-clause-none : goal.returns-clause-none
returns-clause-none c = no_last_part c.args.mark c.args.text.now (omega arith) c.strip_suffix.result c.strip_suffix.ensures.cases
