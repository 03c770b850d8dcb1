use Rattle.rs_import_files.proofs.FormLemmas.{host_bits, no_back, no_front, no_slash}
use Rattle.rs_import_files.proofs.NoneLemmas.{none_so, where_none}
use Rattle.rs_import_files.proofs.prefixes.read_prefix.Goals as goal

pub returns-clause-none : goal.returns-clause-none
returns-clause-none c =
    none_so c.exact_prefix.result
    (host_bits c.args.text.now c.in_ok-front.front.now c.in_ok-front.back.now c.in_ok-front.ensures.parts c.in_ok-front.ensures.first
    c.in_ok-address.address c.in_ok-len.len c.in_ok-address.ensures.found c.in_ok-len.ensures.found)
    c.exact_prefix.ensures.none

pub returns-in_err-front-clause-none : goal.returns-in_err-front-clause-none
returns-in_err-front-clause-none c = where_none c.from_residual.result (no_slash c.args.text.now c.in_err-front.ensures.none)

pub returns-in_err-address-clause-none : goal.returns-in_err-address-clause-none
returns-in_err-address-clause-none c =
    where_none c.from_residual-in_err-address.result
    (no_front c.args.text.now c.in_ok-front.front.now c.in_ok-front.back.now c.in_ok-front.ensures.parts c.in_ok-front.ensures.first
    c.in_err-address.ensures.none)

pub returns-in_err-len-clause-none : goal.returns-in_err-len-clause-none
returns-in_err-len-clause-none c =
    where_none c.from_residual-in_err-len.result
    (no_back c.args.text.now c.in_ok-front.front.now c.in_ok-front.back.now c.in_ok-front.ensures.parts c.in_ok-front.ensures.first
    c.in_err-len.ensures.none)
