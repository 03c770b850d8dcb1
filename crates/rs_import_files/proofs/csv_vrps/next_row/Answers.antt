use Rattle.csv.specs.Records.{fields_of}
use Rattle.rs_import_files.proofs.CsvLemmas.{goes, no_records, not_text}
use Rattle.rs_import_files.proofs.csv_vrps.next_row.Goals as goal

pub returns-in-Ok-clause-found : goal.returns-in-Ok-clause-found
returns-in-Ok-clause-found c = λ text records.
    goes text records c.args.reader.now c.read_record.new.self (fields_of c.read_record.new.row) c.in-Ok.found c.in-Ok.ensures.reads
    c.in-Ok.ensures.ready c.in-Ok.ensures.text

pub returns-in-Err-clause-refused : goal.returns-in-Err-clause-refused
returns-in-Err-clause-refused c = λ text records begins of_file all.
    let why = rw c.kind.ensures at (c.not_text.ensures of_file) in
    let (fields, took, none) = not_text c.args.reader.now c.read_record.new.self _ why (c.in-Err.ensures.why begins.0 begins.1) in
    no_records text records all c.args.reader.now c.read_record.new.self fields begins took none
