use Rattle.std.proofs.Common.{◌∙◌, sym, arith}
use Rattle.rs_setup.proofs.NoneLemmas.{where_none}
use Rattle.rs_setup.proofs.SlashLemmas.{long_back, no_back, no_front, none_beyond, without_slash}
use Rattle.rs_setup.proofs.values.slashed_subnet.Goals as goal

pub returns-clause-none : goal.returns-clause-none
returns-clause-none c =
    none_beyond c.new.result c.in_ok-decimal_length.field-0 c.new.ensures.found (λ long.
    long_back c.args.text.now c.in_ok-address.address.now c.in_ok-address.len.now c.in_ok-decimal_length.field-0
    c.in_ok-address.ensures.parts c.in_ok-address.ensures.first (sym c.as_bytes.ensures.value ∙ c.in_ok-decimal_length.ensures.found)
    (omega arith) long)

pub returns-in_err-address-clause-none : goal.returns-in_err-address-clause-none
returns-in_err-address-clause-none c =
    where_none c.from_residual.result (without_slash c.args.text.now c.in_err-address.ensures.none)

pub returns-in_err-decimal_length-clause-none : goal.returns-in_err-decimal_length-clause-none
returns-in_err-decimal_length-clause-none c =
    where_none c.from_residual-in_err-decimal_length.result
    (no_back c.args.text.now c.in_ok-address.address.now c.in_ok-address.len.now c.in_ok-address.ensures.parts c.in_ok-address.ensures.first
    (λ len small is. c.in_err-decimal_length.ensures.none len small (c.as_bytes.ensures.value ∙ is)))

pub returns-in_err-dotted_address-clause-none : goal.returns-in_err-dotted_address-clause-none
returns-in_err-dotted_address-clause-none c =
    where_none c.from_residual-in_err-dotted_address.result
    (no_front c.args.text.now c.in_ok-address.address.now c.in_ok-address.len.now c.in_ok-address.ensures.parts
    c.in_ok-address.ensures.first
    c.in_err-dotted_address.ensures.none)
