-- What is counted on some prefixes: the findings of a summary, or the routes that a client does not get.
use Rattle.std.specs.Prelude.{◌≡◌, ◌<◌, List, length}
use Rattle.std.specs.List.{flat_map}
use Rattle.rs_update.specs.IpPrefix.{IpPrefix}
use Rattle.rs_table.specs.Content.{TablesContent}
use Rattle.rs_survey.specs.declared.finding.Finding.{Finding}
use Rattle.rs_survey.specs.declared.on_threads.Counted.{Counted}
use Rattle.rs_survey.specs.declared.on_threads.Counted.TheVariants.{Summary, Missing, Unserved}
use Rattle.rs_survey.specs.MissingCounts.{missing_findings_on, unserved_findings_on}
use Rattle.rs_survey.specs.Summary.{findings_on}
use Rattle.rs_survey.specs.Tally.{IsTally, TallyContent}

-- the client, if the count is about one, is a peer of the plan
abbrev pub IsOfPeer : TablesContent → Counted → Type 0
IsOfPeer tables Summary = Unit {0}
IsOfPeer tables (Missing client from) = client < length tables.plan.peers
IsOfPeer tables (Unserved client from) = client < length tables.plan.peers

-- the findings that are counted on a prefix
abbrev pub counted_on : TablesContent → Counted → IpPrefix → List Finding
counted_on tables Summary prefix = findings_on tables prefix
counted_on tables (Missing client from) prefix = missing_findings_on tables client from prefix
counted_on tables (Unserved client from) prefix = unserved_findings_on tables client from prefix

-- the findings on some prefixes are counted
pub record CountsOn (tables : TablesContent) (what : Counted) (some : List IpPrefix) (tally : TallyContent) : Type 0
  where
    pub peers : tally.peers ≡ length tables.plan.peers
    pub counts : IsTally tally (flat_map (counted_on tables what) some)
