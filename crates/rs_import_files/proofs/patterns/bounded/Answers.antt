use Rattle.rs_import_files.proofs.FormLemmas.{no_bounded_prefix, no_prefix, no_written, out_of_bounds}
use Rattle.rs_import_files.proofs.NoneLemmas.{none_so, where_none}
use Rattle.rs_import_files.proofs.TextLemmas.{pattern_alone, pattern_within}
use Rattle.rs_import_files.proofs.patterns.bounded.Goals as goal

pub returns-in_ok-bounds-in-Some-clause-found : goal.returns-in_ok-bounds-in-Some-clause-found
returns-in_ok-bounds-in-Some-clause-found c =
    pattern_within c.args.text.now c.in-Some.front.now c.in-Some.tail.now c.in_ok-read_prefix-in-Some.field-0 c.in_ok-bounds-in-Some.field-0
    c.within.result c.in-Some.ensures.parts c.in_ok-read_prefix-in-Some.ensures.found c.in_ok-bounds-in-Some.ensures.found c.within.ensures.found

pub returns-in_ok-bounds-in-Some-clause-none : goal.returns-in_ok-bounds-in-Some-clause-none
returns-in_ok-bounds-in-Some-clause-none c =
    none_so c.within.result
    (out_of_bounds c.args.text.now c.in-Some.front.now c.in-Some.tail.now c.in-Some.ensures.parts c.in-Some.ensures.first c.requires
    c.in_ok-read_prefix-in-Some.field-0 c.in_ok-bounds-in-Some.field-0 c.in_ok-read_prefix-in-Some.ensures.found
    c.in_ok-bounds-in-Some.ensures.found)
    c.within.ensures.none

pub returns-in_err-bounds-in-Some-clause-none : goal.returns-in_err-bounds-in-Some-clause-none
returns-in_err-bounds-in-Some-clause-none c =
    where_none c.from_residual-in_err-bounds-in-Some.result
    (no_written c.args.text.now c.in-Some.front.now c.in-Some.tail.now c.in-Some.ensures.parts c.in-Some.ensures.first c.requires
    c.in_err-bounds-in-Some.ensures.none)

pub returns-in_err-read_prefix-in-Some-clause-none : goal.returns-in_err-read_prefix-in-Some-clause-none
returns-in_err-read_prefix-in-Some-clause-none c =
    where_none c.from_residual.result
    (no_bounded_prefix c.args.text.now c.in-Some.front.now c.in-Some.tail.now c.in-Some.ensures.parts c.in-Some.ensures.first c.requires
    c.in_err-read_prefix-in-Some.ensures.none)

pub returns-in_ok-read_prefix-in-None-clause-found : goal.returns-in_ok-read_prefix-in-None-clause-found
returns-in_ok-read_prefix-in-None-clause-found c =
    pattern_alone c.args.text.now c.in_ok-read_prefix-in-None.field-0 c.alone.result c.in_ok-read_prefix-in-None.ensures.found c.alone.ensures

pub returns-in_err-read_prefix-in-None-clause-none : goal.returns-in_err-read_prefix-in-None-clause-none
returns-in_err-read_prefix-in-None-clause-none c =
    where_none c.from_residual-in_err-read_prefix-in-None.result
    (no_prefix c.args.text.now c.in-None.ensures.none c.requires c.in_err-read_prefix-in-None.ensures.none)
