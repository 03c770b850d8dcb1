-- Octets came again and again, each time behind those that came before.
use Rattle.std.proofs.Common.{◌<◌, length, ap, refl, arith, true, false, length-append, Ok}
use Rattle.std.proofs.lemmas.Result.{err_from_is_err_and}
use Rattle.rs_mrt.proofs.record_reader.InflowLemmas.{Fills-nothing, Fills-then, Fills-failed}
use Rattle.rs_mrt.proofs.window.Window.fill.Goals as goal

pub returns-in_err-extend-clause-enough : goal.returns-in_err-extend-clause-enough
returns-in_err-extend-clause-enough g c =
    let p = err_from_is_err_and c.from_residual.result c.from_residual.ensures.1 in
    let short : length c.extend.new.self < c.args.wanted = omega (arith, c.in_err-extend.ensures.grows, ap length c.octets.ensures.value) in
    rw p.1 short

pub returns-in_err-extend-clause-room : goal.returns-in_err-extend-clause-room
returns-in_err-extend-clause-room g c = omega (arith, c.in_err-extend.ensures.grows, ap length c.octets.ensures.value, c.requires.room)

pub returns-then-not-branch-clause-enough : goal.returns-then-not-branch-clause-enough
returns-then-not-branch-clause-enough g c =
    let grows = rw c.if-not-branch.true at c.in_ok-extend.ensures.grows in
    omega (arith, grows, ap length c.octets.ensures.value)

pub returns-then-not-branch-clause-room : goal.returns-then-not-branch-clause-room
returns-then-not-branch-clause-room g c =
    let grows = rw c.if-not-branch.true at c.in_ok-extend.ensures.grows in
    omega (arith, grows, ap length c.octets.ensures.value, c.requires.room)

pub loop-self-init : goal.loop-self-init
loop-self-init g c =
    let R = g.R.Read in
    (Fills-nothing R.gives R.failures c.args.inlet.now c.args.self.now c.requires.limit, λ _. refl)

pub loop-self-preserved : goal.loop-self-preserved
loop-self-preserved g c =
    let R = g.R.Read in
    let so_far = c.loop-self.invariant.0 in (
      Fills-then R.gives R.failures c.args.inlet.now c.loop-self.inlet c.extend.new.inlet c.args.self.now c.loop-self.self
          c.extend.new.self (Ok true) so_far (rw c.if-not-branch.false at c.in_ok-extend.ensures.fills),
      λ at_hand. absurd (omega (
        arith,
        at_hand,
        c.loop-self-test.true,
        ap length c.octets.ensures.value,
        ap length so_far.filled,
        length-append c.args.self.now so_far.piece,
      )),
    )

pub returns-then-not-branch-clause-fills : goal.returns-then-not-branch-clause-fills
returns-then-not-branch-clause-fills g c =
    let R = g.R.Read in
    Fills-then R.gives R.failures c.args.inlet.now c.loop-self.inlet c.extend.new.inlet c.args.self.now c.loop-self.self c.extend.new.self
    (Ok false) c.loop-self.invariant.0 (rw c.if-not-branch.true at c.in_ok-extend.ensures.fills)

pub returns-in_err-extend-clause-fills : goal.returns-in_err-extend-clause-fills
returns-in_err-extend-clause-fills g c =
    let R = g.R.Read in
    let p = err_from_is_err_and c.from_residual.result c.from_residual.ensures.1 in
    rw p.1 (Fills-failed R.gives R.failures c.args.inlet.now c.loop-self.inlet c.extend.new.inlet c.args.self.now c.loop-self.self
    c.extend.new.self c.in_err-extend.field-0.0 p.0 c.loop-self.invariant.0 c.in_err-extend.ensures.fills)

pub returns-clause-fills : goal.returns-clause-fills
returns-clause-fills g c = c.loop-self.invariant.0

pub extend-requires-clause-limit : goal.extend-requires-clause-limit
extend-requires-clause-limit g c = c.loop-self.invariant.0.drawn.within
