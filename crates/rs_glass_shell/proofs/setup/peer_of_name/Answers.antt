-- One peer more that doesn't have the name.
use Rattle.std.proofs.Common.{◌≤◌, length, arith}
use Rattle.rs_glass_shell.specs.Named.{IsNameOf}
use Rattle.rs_glass_shell.proofs.NamedLemmas.{none-below, none-more, none-none}
use Rattle.rs_glass_shell.proofs.setup.peer_of_name.Goals as goal

pub loop-number-init : goal.loop-number-init
loop-number-init c = none-none (IsNameOf c.args.name.now c.args.plan.now.peers) 0

pub loop-number-preserved : goal.loop-number-preserved
loop-number-preserved c =
    none-more (IsNameOf c.args.name.now c.args.plan.now.peers) 0 c.loop-number.number c.has_name.result c.loop-number.invariant
    c.has_name.ensures c.if-has_name.false

pub returns-clause-none : goal.returns-clause-none
returns-clause-none c =
    let past : length c.args.plan.now.peers ≤ c.loop-number.number =
    omega (arith, c.loop-number-test.false, c.count-number-end.ensures.value) in
    none-below (IsNameOf c.args.name.now c.args.plan.now.peers) 0 c.loop-number.number (length c.args.plan.now.peers) past
    c.loop-number.invariant
