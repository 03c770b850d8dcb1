use Rattle.csv.specs.Records.{fields_of}
use Rattle.rs_import_files.proofs.ErrLemmas.{err_so, where_err}
use Rattle.rs_import_files.proofs.RecordLemmas.{below_length, no_asn, no_ipv4, no_max_len, no_maximum, no_number}
use Rattle.rs_import_files.proofs.csv_vrps.ipv4_vrp.Goals as goal

pub returns-clause-none : goal.returns-clause-none
returns-clause-none c =
    err_so c.need_vrp.result
    (below_length (fields_of c.args.row.now) c.args.prefix.now c.in_ok-maximum.maximum.now c.in_ok-ipv4.ipv4 c.in_ok-max_len.max_len c.requires
    c.in_ok-ipv4.ensures.found c.in_ok-maximum.ensures.found c.in_ok-max_len.ensures.found)
    c.need_vrp.ensures.none

pub returns-in_err-number-clause-none : goal.returns-in_err-number-clause-none
returns-in_err-number-clause-none c = where_err c.from_residual.result (no_number (fields_of c.args.row.now) c.in_err-number.ensures.none)

pub returns-in_err-asn-clause-none : goal.returns-in_err-asn-clause-none
returns-in_err-asn-clause-none c =
    where_err c.from_residual-in_err-asn.result
    (no_asn (fields_of c.args.row.now) c.in_ok-number.number.now c.in_ok-number.ensures.found c.in_err-asn.ensures.none)

pub returns-in_err-ipv4-clause-none : goal.returns-in_err-ipv4-clause-none
returns-in_err-ipv4-clause-none c =
    where_err c.from_residual-in_err-ipv4.result (no_ipv4 (fields_of c.args.row.now) c.args.prefix.now c.requires c.in_err-ipv4.ensures.none)

pub returns-in_err-maximum-clause-none : goal.returns-in_err-maximum-clause-none
returns-in_err-maximum-clause-none c =
    where_err c.from_residual-in_err-maximum.result (no_maximum (fields_of c.args.row.now) c.in_err-maximum.ensures.none)

pub returns-in_err-max_len-clause-none : goal.returns-in_err-max_len-clause-none
returns-in_err-max_len-clause-none c =
    where_err c.from_residual-in_err-max_len.result
    (no_max_len (fields_of c.args.row.now) c.in_ok-maximum.maximum.now c.in_ok-maximum.ensures.found c.in_err-max_len.ensures.none)
