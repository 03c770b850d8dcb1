use Rattle.std.proofs.Common.{subst}
use Rattle.rs_import_files.specs.Faults.{Refuses}
use Rattle.rs_import_files.specs.Files.{IsAsList, Says}
use Rattle.rs_import_files.specs.JsonRows.{IsJsonOfRanges}
use Rattle.rs_import_files.specs.Lines.{IsTextOfRanges}
use Rattle.rs_import_files.proofs.ErrLemmas.{err_any, of_room, passed_on}
use Rattle.rs_import_files.proofs.lists.read_as_list.Goals as goal

pub returns-clause-refused : goal.returns-clause-refused
returns-clause-refused c = of_room IsAsList c.args.octets.now c.counted.result c.counted.ensures.many

pub returns-in_err-text-clause-refused : goal.returns-in_err-text-clause-refused
returns-in_err-text-clause-refused c =
    err_any c.from_residual.result (λ fault of_file entries is. c.in_err-text.ensures.none is.0)

pub returns-in_err-ranges-clause-refused : goal.returns-in_err-ranges-clause-refused
returns-in_err-ranges-clause-refused c =
    passed_on _ c.in_err-ranges.field-0.0 c.from_residual-in_err-ranges.result c.from_residual-in_err-ranges.ensures.1
    (subst (λ text. Refuses (Says IsJsonOfRanges IsTextOfRanges) text c.in_err-ranges.field-0.0) c.in_ok-text.ensures.found c.in_err-ranges.ensures.refused)
