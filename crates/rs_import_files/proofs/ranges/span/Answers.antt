use Rattle.rs_import_files.proofs.FormLemmas.{descends, no_dash, no_first, no_last}
use Rattle.rs_import_files.proofs.NoneLemmas.{none_so, where_none}
use Rattle.rs_import_files.proofs.ranges.span.Goals as goal

pub returns-clause-none : goal.returns-clause-none
returns-clause-none c =
    none_so c.ascending.result
    (descends c.args.text.now c.in_ok-front.front.now c.in_ok-front.back.now c.in_ok-front.ensures.parts c.in_ok-front.ensures.first
    c.in_ok-first.first c.in_ok-last.last c.in_ok-first.ensures.found c.in_ok-last.ensures.found)
    c.ascending.ensures.none

pub returns-in_err-front-clause-none : goal.returns-in_err-front-clause-none
returns-in_err-front-clause-none c = where_none c.from_residual.result (no_dash c.args.text.now c.in_err-front.ensures.none)

pub returns-in_err-first-clause-none : goal.returns-in_err-first-clause-none
returns-in_err-first-clause-none c =
    where_none c.from_residual-in_err-first.result
    (no_first c.args.text.now c.in_ok-front.front.now c.in_ok-front.back.now c.in_ok-front.ensures.parts c.in_ok-front.ensures.first
    c.in_err-first.ensures.none)

pub returns-in_err-last-clause-none : goal.returns-in_err-last-clause-none
returns-in_err-last-clause-none c =
    where_none c.from_residual-in_err-last.result
    (no_last c.args.text.now c.in_ok-front.front.now c.in_ok-front.back.now c.in_ok-front.ensures.parts c.in_ok-front.ensures.first
    c.in_err-last.ensures.none)
