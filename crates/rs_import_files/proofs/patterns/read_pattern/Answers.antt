use Rattle.rs_import_files.proofs.FormLemmas.{no_plus_prefix}
use Rattle.rs_import_files.proofs.NoneLemmas.{where_none}
use Rattle.rs_import_files.proofs.patterns.read_pattern.Goals as goal

pub returns-in_err-read_prefix-in-Some-clause-none : goal.returns-in_err-read_prefix-in-Some-clause-none
returns-in_err-read_prefix-in-Some-clause-none c =
    where_none c.from_residual.result
    (no_plus_prefix c.args.text.now c.in-Some.front.now c.in-Some.ensures.found c.in_err-read_prefix-in-Some.ensures.none)
