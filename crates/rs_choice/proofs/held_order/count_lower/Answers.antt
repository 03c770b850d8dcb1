use Rattle.std.proofs.Common.{◌≡◌, ◌∙◌, suc, ap, sym, arith, inl, inr}
use Rattle.std.specs.Int.{from_bool}
use Rattle.std.proofs.lemmas.Bool.Decides.{leb_tells}
use Rattle.std.proofs.lemmas.List.{get_or_default}
use Rattle.rs_choice.specs.declared.held_route.HeldRoute.{HeldRoute}
use Rattle.rs_choice.proofs.held_route.OrderLemmas.{lower-also, others-also, others-end}
use Rattle.rs_choice.proofs.held_order.count_lower.Goals as goal

pub loop-place-preserved : goal.loop-place-preserved
loop-place-preserved c =
    let held = c.args.held.now in
    let place = c.loop-place.place in
    let count = c.loop-place.count in
    let peer = c.args.peer in
    let number = c.from.result in
    let so_far = c.loop-place.invariant in
    let within = c.loop-place-test.true in
    let here = λ (one : HeldRoute). ap (λ (found : HeldRoute). found.peer) (get_or_default held place one c.index-held-place.result within)
    ∙ sym c.from.ensures in
    elim (leb_tells (suc number) peer) [
      | inl low ↦
          let more : c.from-count.result ≡ 1 = c.from-count.ensures ∙ ap from_bool low.0 in
          rw more (record {
            within = omega (arith, so_far.within);
            lower = lower-also held place count peer number within so_far.within so_far.lower so_far.others here low.1;
            others = others-end held place count peer number within so_far.within so_far.lower so_far.others here low.1;
          })
      | inr high ↦
          let none : c.from-count.result ≡ 0 = c.from-count.ensures ∙ ap from_bool high.0 in
          record {
            within = omega (arith, so_far.within, none);
            lower = λ up k one below. so_far.lower up k one (omega (arith, below, none));
            others = λ up k one above below. others-also held place count peer number within so_far.within so_far.lower so_far.others here
                (omega (arith, high.1)) up k one (omega (arith, above, none)) below;
          }
    ]
