use Rattle.rs_import_files.proofs.FormLemmas.{no_closing, no_comma, no_least, no_most}
use Rattle.rs_import_files.proofs.NoneLemmas.{where_none}
use Rattle.rs_import_files.proofs.patterns.bounds.Goals as goal

pub returns-in_err-front-clause-none : goal.returns-in_err-front-clause-none
returns-in_err-front-clause-none c = where_none c.from_residual.result (no_comma c.args.text.now c.in_err-front.ensures.none)

pub returns-in_err-back-clause-none : goal.returns-in_err-back-clause-none
returns-in_err-back-clause-none c =
    where_none c.from_residual-in_err-back.result
    (no_closing c.args.text.now c.in_ok-front.front.now c.in_ok-front.tail.now c.in_ok-front.ensures.parts c.in_ok-front.ensures.first
    c.in_err-back.ensures.none)

pub returns-in_err-least-clause-none : goal.returns-in_err-least-clause-none
returns-in_err-least-clause-none c =
    where_none c.from_residual-in_err-least.result
    (no_least c.args.text.now c.in_ok-front.front.now c.in_ok-front.tail.now c.in_ok-front.ensures.parts c.in_ok-front.ensures.first
    c.in_err-least.ensures.none)

pub returns-in_err-most-clause-none : goal.returns-in_err-most-clause-none
returns-in_err-most-clause-none c =
    where_none c.from_residual-in_err-most.result
    (no_most c.args.text.now c.in_ok-front.front.now c.in_ok-front.tail.now c.in_ok-front.ensures.parts c.in_ok-front.ensures.first
    c.in_ok-back.back.now c.in_ok-back.ensures.found c.in_err-most.ensures.none)
