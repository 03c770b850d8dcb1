use Rattle.std.proofs.Common.{◌≡◌, ◌∙◌, refl, sym, arith, length, false}
use Rattle.std.proofs.lemmas.Bool.{iff_false, false≢true}
use Rattle.std.proofs.lemmas.Option.{slice_get_read, slice_get_within}
use Rattle.rs_choice.specs.declared.step.Step.TheVariants as steps
use Rattle.rs_choice.specs.Comparison.{IsLevel, HasLowerMed}
use Rattle.rs_choice.specs.Decision.{beats, standing_of_candidate}
use Rattle.rs_choice.proofs.decision.ScanLemmas.{one_more}
use Rattle.rs_choice.proofs.Eliminations.{beats_tells}
use Rattle.rs_choice.proofs.exchange.Exchange.has_least_med.Goals as goal
use Rattle.rs_choice.proofs.exchange.Exchange.has_least_med.Goals.{else-is_level_with-via-then-is_level_with+else-beats}
use Rattle.rs_choice.proofs.exchange.Exchange.has_least_med.Goals.{else-is_level_with-via-else-is_level_with}

pub loop-candidate-preserved : goal.loop-candidate-preserved
loop-candidate-preserved c =
    let plan = c.args.self.now in
    let candidates = c.args.candidates.now in
    let one = c.args.one.now in
    let i = c.loop-candidate.candidate-index in
    let candidate = c.candidate-item.result in
    let other = standing_of_candidate plan candidate in
    let at = slice_get_read candidates (length candidates) i candidate refl c.loop-candidate-test.true c.candidate-item.is in
    one_more plan candidates i candidate at (λ k other. (IsLevel other one × HasLowerMed other one) → ⊥)
    c.loop-candidate.invariant
    (elim c.else-is_level_with.branch [
      | else-is_level_with-via-then-is_level_with+else-beats w ↦
          let not_beats : beats steps.Med other one ≡ false =
          rw c.standing-other.ensures at (sym w.beats.ensures ∙ w.if-beats.false) in
          λ both. false≢true (sym not_beats ∙ (beats_tells steps.Med other one).1 both.1)
      | else-is_level_with-via-else-is_level_with w ↦
          let not_level : IsLevel other one → ⊥ =
          rw c.standing-other.ensures at (iff_false c.is_level_with.ensures w.if-is_level_with.false) in
          λ both. not_level both.0
    ])

pub returns : goal.returns
returns c = (
  λ _ k candidate at.
      let within = slice_get_within c.args.candidates.now k candidate at in
      c.loop-candidate.invariant k (omega (arith, within, c.loop-candidate-test.false)) candidate at,
  λ _. refl,
)
