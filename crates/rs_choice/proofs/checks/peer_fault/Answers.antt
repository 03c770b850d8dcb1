use Rattle.std.proofs.Common.{◌≡◌, ◌∙◌, sym, ap, refl, arith, ◌==◌, false, true, rules}
use Rattle.std.proofs.lemmas.Bool.Decides.{nat_tests}
use Rattle.rs_choice.specs.Checks.{has_address_among}
use Rattle.rs_choice.specs.Plan.{is_name}
use Rattle.rs_choice.proofs.plan.PlanLemmas.{peer_fault-is}
use Rattle.rs_choice.proofs.checks.peer_fault.Goals as goal

pub returns-then-has_name : goal.returns-then-has_name
returns-then-has_name c =
    let named = c.is_name.ensures ∙ ap is_name c.as_bytes.ensures.value in
    let same = has_address_among c.args.earlier.now c.args.peer.now.address in
    sym (peer_fault-is c.args.earlier.now c.args.number c.args.peer.now c.is_name.result c.has_name.result same named c.has_name.ensures
    refl
    ∙ rw (c.if-not-is_name.false, c.if-has_name.true) refl)

pub returns-then-has_address : goal.returns-then-has_address
returns-then-has_address c =
    let named = c.is_name.ensures ∙ ap is_name c.as_bytes.ensures.value in
    sym (peer_fault-is c.args.earlier.now c.args.number c.args.peer.now c.is_name.result c.has_name.result c.has_address.result named
    c.has_name.ensures c.has_address.ensures
    ∙ rw (c.if-not-is_name.false, c.if-has_name.false, c.if-has_address.true) refl)

pub returns-then-peer-eq0 : goal.returns-then-peer-eq0
returns-then-peer-eq0 c =
    let named = c.is_name.ensures ∙ ap is_name c.as_bytes.ensures.value in
    let zero : (c.args.peer.now.asn == 0) ≡ true = grind (arith, nat_tests) in
    sym (peer_fault-is c.args.earlier.now c.args.number c.args.peer.now c.is_name.result c.has_name.result c.has_address.result named
    c.has_name.ensures c.has_address.ensures
    ∙ rw (c.if-not-is_name.false, c.if-has_name.false, c.if-has_address.false, zero) refl)

pub returns : goal.returns
returns c =
    let named = c.is_name.ensures ∙ ap is_name c.as_bytes.ensures.value in
    let zero : (c.args.peer.now.asn == 0) ≡ false = grind (arith, nat_tests) in
    sym (peer_fault-is c.args.earlier.now c.args.number c.args.peer.now c.is_name.result c.has_name.result c.has_address.result named
    c.has_name.ensures c.has_address.ensures
    ∙ rw (c.if-not-is_name.false, c.if-has_name.false, c.if-has_address.false, zero) refl)

pub returns-then-not-is_name : goal.returns-then-not-is_name
returns-then-not-is_name c = search rules
