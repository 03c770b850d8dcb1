-- Findings that are counted one after another.
use Rattle.std.specs.Prelude.{◌≡◌, ◌++◌, List}
use Rattle.rs_survey.specs.declared.finding.Finding.{Finding}
use Rattle.rs_survey.specs.Tally.{IsTally, TallyContent}

-- these further findings are counted
pub record Grows (old new : TallyContent) (more : List Finding) : Type 0 where
  pub peers : new.peers ≡ old.peers
  pub counts : (findings : List Finding) → IsTally old findings → IsTally new (findings ++ more)
