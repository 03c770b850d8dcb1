use Rattle.std.proofs.Common.{◌∙◌, sym, ap}
use Rattle.std.specs.Option.{option_copied}
use Rattle.toml.specs.View.{view}
use Rattle.rs_setup.specs.Values.{IsSlashedSubnet}
use Rattle.rs_setup.proofs.NoneLemmas.{none_so, not_written}
use Rattle.rs_setup.proofs.values.subnet.Goals as goal

pub returns-in-Some-clause-none : goal.returns-in-Some-clause-none
returns-in-Some-clause-none c =
    none_so c.slashed_subnet.result
    (not_written IsSlashedSubnet (view c.args.value.now) c.in-Some.text.now (sym c.as_str.ensures ∙ ap option_copied c.in-Some.is))
    c.slashed_subnet.ensures.none
