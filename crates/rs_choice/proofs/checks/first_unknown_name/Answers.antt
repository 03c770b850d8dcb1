use Rattle.std.proofs.Common.{◌∙◌, sym, ap, arith, refl, rules}
use Rattle.std.proofs.lemmas.Grind.{common_steps}
use Rattle.std.specs.Prelude.{string_bytes}
use Rattle.std.specs.List.{list_all}
use Rattle.rs_choice.specs.Checks.{has_name_among}
use Rattle.rs_choice.specs.declared.fault.PlanFault.TheVariants.{UnknownName}
use Rattle.rs_choice.proofs.plan.PlanLemmas.{first_fault-here, first_fault-later, refused_fault, refused_tests}
use Rattle.rs_choice.proofs.checks.first_unknown_name.Goals as goal

pub returns-then-not-has_names : goal.returns-then-not-has_names
returns-then-not-has_names c =
    let peers = c.args.peers.now in
    let number = c.loop-number.number in
    let peer = c.index-peers-number.result in
    let named = c.has_names.ensures ∙ ap (list_all (λ name. has_name_among peers (string_bytes name))) c.deref.ensures.value in
    sym (first_fault-here (refused_tests peers) peers number peer c.loop-number-test.true c.index-peers-number.is c.loop-number.invariant
    (UnknownName number) (refused_fault peers number peer c.has_names.result named ∙ rw c.if-not-has_names.true refl))

pub loop-number-preserved : goal.loop-number-preserved
loop-number-preserved c =
    let peers = c.args.peers.now in
    let number = c.loop-number.number in
    let peer = c.index-peers-number.result in
    let named = c.has_names.ensures ∙ ap (list_all (λ name. has_name_among peers (string_bytes name))) c.deref.ensures.value in
    first_fault-later (refused_tests peers) peers number peer c.loop-number-test.true c.index-peers-number.is c.loop-number.invariant
    (refused_fault peers number peer c.has_names.result named ∙ rw c.if-not-has_names.false refl)

pub loop-number-init : goal.loop-number-init
loop-number-init c = search rules

pub loop-number-smaller : goal.loop-number-smaller
loop-number-smaller c = search rules

pub returns : goal.returns
returns c = grind (arith, common_steps)
