use Rattle.std.proofs.Common.{rules, ◌≡◌, ◌<◌, ◌≤◌, ◌+◌, ◌*◌, ◌∙◌, ◌++◌, ◌∷◌, [], All, map, ap, subst, sym, arith}
use Rattle.std.proofs.lemmas.List.{map-append}
use Rattle.std.proofs.lemmas.List.Elements.{All-push}
use Rattle.rs_picture.specs.Marks.{mark_of, round_times}
use Rattle.rs_picture.specs.Ticks.{IsOnAxis, step_for, steps}
use Rattle.rs_picture.proofs.RoundLemmas.{all_rounds, no_rounds, one_round, rounds, same_rounds}
use Rattle.rs_picture.proofs.marking.marks.Goals as goal
use Rattle.rs_picture.proofs.marking.marks.Goals.{then-time-from+in_ok-push, else-time-from}

pub loop-number-init : goal.loop-number-init
loop-number-init c =
    let axis = c.args.axis.now in
    record {
      marks = c.new-marks.ensures.items
          ∙ ap (map (mark_of axis)) (sym (no_rounds c.tick_step-step.result axis.first c.first_tick-first.result axis.last
          c.first_tick-first.ensures));
      on_axis = search rules;
    }

pub loop-number-preserved : goal.loop-number-preserved
loop-number-preserved c =
    let axis = c.args.axis.now in
    let step = c.tick_step-step.result in
    let tick = c.first_tick-first.result in
    let number = c.loop-number.number in
    let at : tick + c.from.result * c.from-in-loop-number.result ≡ tick + number * step =
    ap (λ n. tick + n * c.from-in-loop-number.result) c.from.ensures
    ∙ ap (λ s. tick + number * s) c.from-in-loop-number.ensures in
    let so_far = c.loop-number.invariant in
    elim c.if-time-from.branch [
      | then-time-from+in_ok-push w ↦
          let some : 0 < step = omega (arith, c.tick_step-step.ensures.few) in
          let within : tick + number * step ≤ axis.last = omega (arith, at, w.if-time-from.true, c.from-in-loop-number-2.ensures) in
          let items = ap (λ marks. marks.items) w.marks-is ∙ w.in_ok-push.ensures.items in
          record {
            marks = items ∙ ap (λ mark. c.loop-number.marks.items ++ mark ∷ [])
                (w.mark_at.ensures.value ∙ ap (mark_of axis) at)
                ∙ ap (λ marks. marks ++ mark_of axis (tick + number * step) ∷ []) so_far.marks
                ∙ sym (map-append (mark_of axis) (rounds step axis.first tick axis.last c.first_tick-first.ensures number)
                ((tick + number * step) ∷ []))
                ∙ ap (map (mark_of axis)) (sym (one_round step axis.first tick axis.last c.first_tick-first.ensures number some within));
            on_axis = subst (λ marks. All (λ mark. IsOnAxis axis.first axis.last axis.width mark.time mark.place) marks) (sym items)
                (All-push (λ mark. IsOnAxis axis.first axis.last axis.width mark.time mark.place) c.loop-number.marks.items
                w.mark_at.result so_far.on_axis w.mark_at.ensures.on_axis);
          }
      | else-time-from w ↦
          record {
            marks = ap (λ marks. marks.items) w.marks-is ∙ so_far.marks
                ∙ ap (map (mark_of axis)) (sym (same_rounds step axis.first tick axis.last c.first_tick-first.ensures number
                (omega (arith, at, w.if-time-from.false, c.from-in-loop-number-2.ensures))));
            on_axis = subst (λ marks. All (λ mark. IsOnAxis axis.first axis.last axis.width mark.time mark.place) marks)
                (sym (ap (λ marks. marks.items) w.marks-is)) so_far.on_axis;
          }
    ]

pub returns-clause-all : goal.returns-clause-all
returns-clause-all c =
    let axis = c.args.axis.now in
    let step = c.tick_step-step.result in
    c.loop-number.invariant.marks
    ∙ ap (map (mark_of axis)) (all_rounds step axis.first c.first_tick-first.result axis.last
    c.first_tick-first.ensures c.loop-number.number (omega (arith, c.loop-number-test.false))
    (omega (arith, c.tick_step-step.ensures.few, c.saturating_sub.ensures)))
    ∙ ap (λ s. map (mark_of axis) (round_times s axis.first (axis.last + 1)))
    (c.tick_step-step.ensures.least ∙ ap (λ span. step_for span steps) c.saturating_sub.ensures)
