-- Laws of summaries.
use Rattle.std.specs.Prelude.{◌≡◌, ℕ, Some}
use Rattle.rs_update.specs.IpPrefix.{IpPrefix}
use Rattle.rs_choice.specs.Decision.{SentRoute, decision_steps, standing_of}
use Rattle.rs_table.specs.Content.{TablesContent}
use Rattle.rs_table.specs.Table.{candidates_of, route_from}
use Rattle.rs_explain.specs.declared.explanation.Explanation.TheVariants.{Lost}
use Rattle.rs_explain.specs.declared.removal.Removal.{Removal}
use Rattle.rs_explain.specs.Explanations.{IsExplanation}
use Rattle.rs_survey.specs.Summary.{removed_at}

-- the step that a summary counts for a candidate that a client loses is the one that the explanation names
abbrev pub CountedStepIsExplained : Type 0
CountedStepIsExplained =
    (tables : TablesContent) (client peer : ℕ) (prefix : IpPrefix) (removal : Removal) →
    IsExplanation tables client peer prefix (Lost removal) →
    (route : SentRoute) × (route_from tables prefix peer ≡ Some route)
    × (removed_at (standing_of tables.plan) decision_steps (candidates_of tables client prefix) route
    ≡ Some removal.step)
