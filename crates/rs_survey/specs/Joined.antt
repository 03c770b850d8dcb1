-- Tallies that are added.
use Rattle.std.specs.Prelude.{◌≡◌, ◌+◌, ◌++◌, ℕ, List, min, slice_index_or}
use Rattle.rs_survey.specs.declared.finding.Finding.{Finding}
use Rattle.rs_survey.specs.Tally.{IsTally, TallyContent, most}

-- each number is the sum of the two numbers at its place
abbrev pub AreSums : List ℕ → List ℕ → List ℕ → Type 0
AreSums some others sums =
    (place : ℕ) → slice_index_or sums place 0 ≡ min (slice_index_or some place 0 + slice_index_or others place 0) most

-- the tally counts what one tally and another count
pub record IsJoined (one other both : TallyContent) : Type 0 where
  pub peers : both.peers ≡ one.peers
  pub counts : (some others : List Finding) → IsTally one some → IsTally other others → IsTally both (some ++ others)
