-- One peer more whose address or AS number the word isn't.
use Rattle.std.proofs.Common.{◌≤◌, length, arith}
use Rattle.rs_glass_shell.specs.Named.{IsOf}
use Rattle.rs_glass_shell.proofs.NamedLemmas.{none-below, none-more, none-none}
use Rattle.rs_glass_shell.proofs.setup.first_of.Goals as goal

pub loop-number-init : goal.loop-number-init
loop-number-init c = none-none (IsOf c.args.word.now c.args.plan.now.peers) c.args.from

pub loop-number-preserved : goal.loop-number-preserved
loop-number-preserved c =
    none-more (IsOf c.args.word.now c.args.plan.now.peers) c.args.from c.loop-number.number c.in_ok-found.found c.loop-number.invariant
    c.in_ok-found.ensures c.if-found.false

pub returns-clause-none : goal.returns-clause-none
returns-clause-none c =
    let past : length c.args.plan.now.peers ≤ c.loop-number.number =
    omega (arith, c.loop-number-test.false, c.count-number-end.ensures.value) in
    none-below (IsOf c.args.word.now c.args.plan.now.peers) c.args.from c.loop-number.number (length c.args.plan.now.peers) past
    c.loop-number.invariant
