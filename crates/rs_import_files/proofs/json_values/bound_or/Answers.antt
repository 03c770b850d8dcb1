use Rattle.std.proofs.Common.{subst, sym}
use Rattle.rs_import_files.specs.JsonRows.{IsBound}
use Rattle.rs_import_files.proofs.ErrLemmas.{err_so}
use Rattle.rs_import_files.proofs.json_values.bound_or.Goals as goal

pub returns-in-Some-clause-none : goal.returns-in-Some-clause-none
returns-in-Some-clause-none c =
    err_so c.need_length_value.result
    (λ none len is. none len (subst (λ one. IsBound one c.args.default len) (sym c.in-Some.ensures) is))
    c.need_length_value.ensures.none
