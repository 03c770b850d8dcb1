use Rattle.std.proofs.Common.{◌≡◌, ◌<◌, ℕ, Some}
use Rattle.std.specs.Prelude.{slice_get}
use Rattle.rs_choice.specs.declared.candidate.Candidate.{Candidate}
use Rattle.rs_choice.specs.Comparison.{IsLevel, HasLowerMed}
use Rattle.rs_choice.specs.Decision.{standing_of_candidate}
use Rattle.rs_choice.proofs.exchange.Exchange.has_least_med.Given as goal

-- none of the first candidates has a lower MED
abbrev pub invariant-loop-candidate : goal.invariant-loop-candidate
invariant-loop-candidate l =
    (k : ℕ) → k < l.candidate-index → (candidate : Candidate) → slice_get l.candidates k ≡ Some candidate
    → IsLevel (standing_of_candidate l.self candidate) l.one × HasLowerMed (standing_of_candidate l.self candidate) l.one → ⊥
