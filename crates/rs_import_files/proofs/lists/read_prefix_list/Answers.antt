use Rattle.std.proofs.Common.{subst}
use Rattle.rs_import_files.specs.Faults.{Refuses}
use Rattle.rs_import_files.specs.Files.{IsPrefixList, Says}
use Rattle.rs_import_files.specs.JsonRows.{IsJsonOfPatterns}
use Rattle.rs_import_files.specs.Lines.{IsTextOfPatterns}
use Rattle.rs_import_files.proofs.ErrLemmas.{err_any, of_room, passed_on}
use Rattle.rs_import_files.proofs.lists.read_prefix_list.Goals as goal

pub returns-clause-refused : goal.returns-clause-refused
returns-clause-refused c = of_room IsPrefixList c.args.octets.now c.counted.result c.counted.ensures.many

pub returns-in_err-text-clause-refused : goal.returns-in_err-text-clause-refused
returns-in_err-text-clause-refused c =
    err_any c.from_residual.result (λ fault of_file entries is. c.in_err-text.ensures.none is.0)

pub returns-in_err-patterns-clause-refused : goal.returns-in_err-patterns-clause-refused
returns-in_err-patterns-clause-refused c =
    passed_on _ c.in_err-patterns.field-0.0 c.from_residual-in_err-patterns.result c.from_residual-in_err-patterns.ensures.1
    (subst (λ text. Refuses (Says IsJsonOfPatterns IsTextOfPatterns) text c.in_err-patterns.field-0.0) c.in_ok-text.ensures.found c.in_err-patterns.ensures.refused)
