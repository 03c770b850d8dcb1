use Rattle.json.specs.Value.{value_view}
use Rattle.rs_import_files.proofs.ErrLemmas.{err_so, where_err}
use Rattle.rs_import_files.proofs.RecordLemmas.{no_least_bound, no_most_bound, not_between, not_exact, pattern_no_prefix}
use Rattle.rs_import_files.proofs.json_lists.ipv4_pattern.Goals as goal

pub returns-clause-none : goal.returns-clause-none
returns-clause-none c =
    err_so c.need_within.result
    (not_between (value_view c.args.row.now) c.args.text.now c.in_ok-prefix.prefix c.requires c.in_ok-prefix.ensures.found c.greatest.result c.in_ok-least.least
    c.in_ok-most.most c.greatest.ensures (rw c.len.ensures.value at c.in_ok-least.ensures.found) c.in_ok-most.ensures.found)
    c.need_within.ensures.none

pub returns-in_err-prefix-clause-none : goal.returns-in_err-prefix-clause-none
returns-in_err-prefix-clause-none c =
    where_err c.from_residual.result (pattern_no_prefix (value_view c.args.row.now) c.args.text.now c.requires c.in_err-prefix.ensures.none)

pub returns-in_err-least-clause-none : goal.returns-in_err-least-clause-none
returns-in_err-least-clause-none c =
    where_err c.from_residual-in_err-least.result
    (no_least_bound (value_view c.args.row.now) c.args.text.now c.in_ok-prefix.prefix c.requires c.in_ok-prefix.ensures.found
    (rw c.len.ensures.value at c.in_err-least.ensures.none))

pub returns-in_err-most-clause-none : goal.returns-in_err-most-clause-none
returns-in_err-most-clause-none c =
    where_err c.from_residual-in_err-most.result
    (no_most_bound (value_view c.args.row.now) c.args.text.now c.in_ok-prefix.prefix c.requires c.in_ok-prefix.ensures.found c.greatest.result c.greatest.ensures
    c.in_err-most.ensures.none)

pub returns-in_err-need_lawful_exact-clause-none : goal.returns-in_err-need_lawful_exact-clause-none
returns-in_err-need_lawful_exact-clause-none c =
    where_err c.from_residual-in_err-need_lawful_exact.result (not_exact (value_view c.args.row.now) c.in_err-need_lawful_exact.ensures.none)
