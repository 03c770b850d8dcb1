use Rattle.json.specs.Value.{value_view}
use Rattle.rs_import_files.proofs.ErrLemmas.{err_so, where_err}
use Rattle.rs_import_files.proofs.RecordLemmas.{row_below_length, row_no_asn, row_no_maximum, row_no_prefix, row_without_asn}
use Rattle.rs_import_files.proofs.RecordLemmas.{row_without_maximum}
use Rattle.rs_import_files.proofs.json_lists.ipv4_vrp.Goals as goal

pub returns-clause-none : goal.returns-clause-none
returns-clause-none c =
    err_so c.need_vrp.result
    (row_below_length (value_view c.args.row.now) c.args.text.now (value_view c.in_ok-maximum.maximum.now) c.in_ok-prefix.prefix c.in_ok-max_len.max_len c.requires
    c.in_ok-prefix.ensures.found c.in_ok-maximum.ensures.found c.in_ok-max_len.ensures.found)
    c.need_vrp.ensures.none

pub returns-in_err-number-clause-none : goal.returns-in_err-number-clause-none
returns-in_err-number-clause-none c = where_err c.from_residual.result (row_without_asn (value_view c.args.row.now) c.in_err-number.ensures.none)

pub returns-in_err-asn-clause-none : goal.returns-in_err-asn-clause-none
returns-in_err-asn-clause-none c =
    where_err c.from_residual-in_err-asn.result
    (row_no_asn (value_view c.args.row.now) (value_view c.in_ok-number.number.now) c.in_ok-number.ensures.found c.in_err-asn.ensures.none)

pub returns-in_err-prefix-clause-none : goal.returns-in_err-prefix-clause-none
returns-in_err-prefix-clause-none c =
    where_err c.from_residual-in_err-prefix.result (row_no_prefix (value_view c.args.row.now) c.args.text.now c.requires c.in_err-prefix.ensures.none)

pub returns-in_err-maximum-clause-none : goal.returns-in_err-maximum-clause-none
returns-in_err-maximum-clause-none c =
    where_err c.from_residual-in_err-maximum.result (row_without_maximum (value_view c.args.row.now) c.in_err-maximum.ensures.none)

pub returns-in_err-max_len-clause-none : goal.returns-in_err-max_len-clause-none
returns-in_err-max_len-clause-none c =
    where_err c.from_residual-in_err-max_len.result
    (row_no_maximum (value_view c.args.row.now) (value_view c.in_ok-maximum.maximum.now) c.in_ok-maximum.ensures.found c.in_err-max_len.ensures.none)
