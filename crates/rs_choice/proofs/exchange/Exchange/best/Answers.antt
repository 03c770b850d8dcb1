use Rattle.std.proofs.Common.{refl, length, rules}
use Rattle.std.proofs.lemmas.Bool.{iff_false}
use Rattle.std.proofs.lemmas.Option.{slice_get_read}
use Rattle.rs_choice.specs.Comparison.{IsLevel}
use Rattle.rs_choice.specs.Decision.{standing_of_candidate}
use Rattle.rs_choice.specs.Scan.{HasLeastMed, GoesFirst, IsLeftByMed}
use Rattle.rs_choice.proofs.decision.ScanLemmas.{level_has_none_ahead, none_ahead_is_level, best_skips, best_changes, best_stays}
use Rattle.rs_choice.proofs.exchange.Exchange.best.Goals as goal
use Rattle.rs_choice.proofs.exchange.Exchange.best.Goals.{then-is_level_with+then-has_least_med+then-goes_first, else-is_level_with}
use Rattle.rs_choice.proofs.exchange.Exchange.best.Goals.{else-is_level_with-via-then-is_level_with+then-has_least_med+else-goes_first}
use Rattle.rs_choice.proofs.exchange.Exchange.best.Goals.{else-is_level_with-via-then-is_level_with+else-has_least_med}
use Rattle.rs_choice.proofs.exchange.Exchange.best.Goals.{else-is_level_with-via-else-is_level_with}

pub loop-place-preserved : goal.loop-place-preserved
loop-place-preserved c =
    let plan = c.args.self.now in
    let candidates = c.args.candidates.now in
    let i = c.loop-place.place in
    let leader = c.in_ok-leader.leader in
    let candidate = c.index-candidates-place.result in
    let one = standing_of_candidate plan candidate in
    let at = slice_get_read candidates (length candidates) i candidate refl c.loop-place-test.true c.index-candidates-place.is in
    elim c.if-is_level_with.branch [
      | then-is_level_with+then-has_least_med+then-goes_first w ↦
          let level : IsLevel one leader = rw c.standing-standing.ensures at (c.is_level_with.ensures.0 w.if-is_level_with.true) in
          let least : HasLeastMed plan candidates one =
          rw c.standing-standing.ensures at (w.has_least_med.ensures.0 w.if-has_least_med.true) in
          let first : GoesFirst one c.loop-place.best = rw c.standing-standing.ensures at (w.goes_first.ensures.0 w.if-goes_first.true) in
          let left : IsLeftByMed plan candidates one =
          (level_has_none_ahead plan candidates leader one c.in_ok-leader.ensures level, least) in
          rw (w.best-is, c.standing-standing.ensures) (best_changes plan candidates i c.loop-place.best candidate at c.loop-place.invariant
          left first)
      | else-is_level_with w ↦
          rw w.best-is (elim w.else-is_level_with.branch [
            | else-is_level_with-via-then-is_level_with+then-has_least_med+else-goes_first w' ↦
                let first_not : GoesFirst one c.loop-place.best → ⊥ =
                rw c.standing-standing.ensures at (iff_false w'.goes_first.ensures w'.if-goes_first.false) in
                best_stays plan candidates i c.loop-place.best candidate at c.loop-place.invariant first_not
            | else-is_level_with-via-then-is_level_with+else-has_least_med w' ↦
                let least_not : HasLeastMed plan candidates one → ⊥ =
                rw c.standing-standing.ensures at (iff_false w'.has_least_med.ensures w'.if-has_least_med.false) in
                best_skips plan candidates i c.loop-place.best candidate at c.loop-place.invariant (λ left. least_not left.1)
            | else-is_level_with-via-else-is_level_with w' ↦
                let level_not : IsLevel one leader → ⊥ =
                rw c.standing-standing.ensures at (iff_false c.is_level_with.ensures w'.if-is_level_with.false) in
                best_skips plan candidates i c.loop-place.best candidate at c.loop-place.invariant
                (λ left. level_not (none_ahead_is_level plan candidates leader one i candidate at refl c.in_ok-leader.ensures left.0))
          ])
    ]

pub loop-place-init : goal.loop-place-init
loop-place-init c = search rules

pub loop-place-smaller : goal.loop-place-smaller
loop-place-smaller c = search rules

pub returns : goal.returns
returns c = search rules

pub returns-in_err-leader : goal.returns-in_err-leader
returns-in_err-leader c = search rules
