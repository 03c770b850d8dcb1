-- One writer more is back.
use Rattle.std.proofs.Common.{◌≡◌, ◌∷◌, List, arith, length, refl, rules, subst, sym}
use Rattle.std.specs.Vec.Iter.{into_iter_items}
use Rattle.rs_dump.specs.declared.side_by_side.Writing.{Writing}
use Rattle.rs_keep.specs.StartedDumps.{AreOut}
use Rattle.rs_keep.proofs.StartedLemmas.{all-out-back, all-out-first, none-out}
use Rattle.rs_keep.proofs.keeping.lose_all.Goals as goal

pub loop-writing-init : goal.loop-writing-init
loop-writing-init g c =
    let O = g.O.Outlet in
    let label = g.O.Out.Write.label in
    let same : into_iter_items c.into_iter-writing-iterator.result ≡ into_iter_items c.args.written = search rules in (
      tt,
      tt,
      record {
        out = λ before names out. (names, subst (λ some. AreOut label before (O.started c.args.outlet.now) some names) (sym same) out);
        kept = refl;
        failures = omega arith;
      },
    )

pub lost-requires : goal.lost-requires
lost-requires g c =
    let O = g.O.Outlet in
    let label = g.O.Out.Write.label in
    let others = into_iter_items c.next.new.self in
    let parts : into_iter_items c.loop-writing.writing-iterator ≡ c.in-Some.writing ∷ others = search rules in
    let all = c.requires in
    let left = c.loop-writing.invariant.2.out all.0 all.1 all.2 in
    let P : List (Writing g.row.O-Out.Denot) → Type 0 = λ some. AreOut label all.0 (O.started c.loop-writing.outlet) some left.0 in
    record { started = all-out-first label all.0 (O.started c.loop-writing.outlet) c.in-Some.writing others left.0 (subst P parts left.1) }

pub loop-writing-preserved : goal.loop-writing-preserved
loop-writing-preserved g c =
    let O = g.O.Outlet in
    let label = g.O.Out.Write.label in
    let others = into_iter_items c.next.new.self in
    let parts : into_iter_items c.loop-writing.writing-iterator ≡ c.in-Some.writing ∷ others = search rules in
    let so_far = c.loop-writing.invariant.2 in (
      tt,
      tt,
      record {
        out = λ before names out.
            let left = so_far.out before names out in
            let P : List (Writing g.row.O-Out.Denot) → Type 0 = λ some. AreOut label before (O.started c.loop-writing.outlet) some left.0 in
            all-out-back label before (O.started c.loop-writing.outlet) (O.started c.lost.new.self) c.in-Some.writing others left.0
            (subst P parts left.1) c.lost.ensures.back;
        kept = search rules;
        failures = omega (arith, so_far.failures, c.lost.ensures.no_fewer);
      },
    )

pub returns-clause-back : goal.returns-clause-back
returns-clause-back g c = λ before names out.
    let O = g.O.Outlet in
    let some = into_iter_items c.loop-writing.writing-iterator in
    let none : length some ≡ 0 = search rules in
    let left = c.loop-writing.invariant.2.out before names out in
    none-out g.O.Out.Write.label before (O.started c.loop-writing.outlet) some left.0 none left.1
