-- One more dump is begun, and a writer is out for it.
use Rattle.std.proofs.Common.{◌≡◌, ◌+◌, [], ◌∷◌, List, ap, arith, length, length-append, rules, subst, sym}
use Rattle.rs_dump.specs.declared.side_by_side.Writing.{Writing}
use Rattle.rs_outlet.specs.Started.{Names}
use Rattle.rs_keep.specs.StartedDumps.{AreOutFrom}
use Rattle.rs_keep.proofs.StartedLemmas.{then-from}
use Rattle.rs_keep.proofs.dumps.begin_behind.Goals as goal

pub returns-after-loop-some-clause-started : goal.returns-after-loop-some-clause-started
returns-after-loop-some-clause-started g c = c.loop-some.invariant.started

pub returns-in_default-clause-started : goal.returns-in_default-clause-started
returns-in_default-clause-started g c = λ before out.
    let P : Names → Type 0 =
    λ now. AreOutFrom g.O.Out.Write.label c.args.dumping.now.files.now c.args.client before now c.loop-some.some.items in
    subst P (sym c.in_default.ensures.none) (c.loop-some.invariant.started before out)

pub loop-some-preserved : goal.loop-some-preserved
loop-some-preserved g c =
    let O = g.O.Outlet in
    let label = g.O.Out.Write.label in
    let files = c.args.dumping.now.files.now in
    let client = c.args.client in
    let some = c.loop-some.some.items in
    let more = c.push.new.self.items in
    let pushed : length more ≡ length some + 1 = omega (arith, ap length c.in-Ok.ensures.items, length-append some (c.in-Some.next ∷ [])) in
    record {
      begun = search rules;
      some = omega (arith, pushed);
      most = search rules;
      capacity = search rules;
      started = λ before out.
          let P : List (Writing g.row.O-Out.Denot) → Type 0 =
          λ all. AreOutFrom label files client before (O.started c.begin_ahead.new.outlet) all in
          subst P (sym c.in-Ok.ensures.items)
          (then-from label files client _ before (O.started c.loop-some.outlet) (O.started c.begin_ahead.new.outlet) some
          (c.in-Some.next ∷ []) (omega (arith, c.len-in-loop-some.ensures))
          (c.loop-some.invariant.started before out) c.in-Some.ensures.started);
      kept = search rules;
      failures = search rules;
    }
