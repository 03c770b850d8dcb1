-- The candidates of a client for a prefix, collected once.
use Rattle.std.specs.Prelude.{◌≡◌, ℕ}
use Rattle.std.specs.Option.{option_map}
use Rattle.rs_update.specs.IpPrefix.{IpPrefix}
use Rattle.rs_table.specs.Content.{TablesContent}
use Rattle.rs_table.specs.Table.{best_of}
use Rattle.rs_explain.specs.declared.explanation.Candidates.{Candidates}
use Rattle.rs_explain.specs.Contenders.{contender_of, AreContenders}

-- these are all candidates, and the one that the client gets
pub record AreCandidates (tables : TablesContent) (client : ℕ) (prefix : IpPrefix) (candidates : Candidates)
    : Type 0 where
  pub best : candidates.best ≡ option_map (contender_of tables.plan) (best_of tables client prefix)
  pub all : AreContenders tables client prefix candidates.all.items
