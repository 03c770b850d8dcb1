use Rattle.std.proofs.lemmas.Result.{IfErr-weaker, IfOk-weaker}
use Rattle.csv.specs.Reading.{strip_bom}
use Rattle.rs_import_files.proofs.csv_vrps.csv_vrps.Goals as goal

pub returns-clause-found : goal.returns-clause-found
returns-clause-found c =
    IfOk-weaker c.vrps_of.result _ _ (λ vrps so. so (strip_bom c.args.octets.now) c.reader_of-reader.ensures) c.vrps_of.ensures.found

pub returns-clause-refused : goal.returns-clause-refused
returns-clause-refused c =
    IfErr-weaker c.vrps_of.result _ _ (λ fault so. so (strip_bom c.args.octets.now) c.reader_of-reader.ensures) c.vrps_of.ensures.refused
