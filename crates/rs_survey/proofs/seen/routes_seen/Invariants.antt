use Rattle.std.specs.Prelude.{◌≡◌, ◌≤◌, ◌++◌, All, length, map}
use Rattle.std.proofs.Common.{drop}
use Rattle.rs_table.specs.Table.{routes_on}
use Rattle.rs_survey.specs.Seen.{IsFilteredOn, IsSeen, sent_of_seen}
use Rattle.rs_survey.proofs.SeenLemmas.{routes_from}
use Rattle.rs_survey.proofs.seen.routes_seen.Given as goal

-- the routes so far, with those of the peers to come, are all routes
abbrev pub invariant-loop-peer : goal.invariant-loop-peer
invariant-loop-peer l = record {
  listed : map sent_of_seen l.seen.items ++ routes_from l.on.prefix l.peer (drop l.peer l.tables.ribs)
      ≡ routes_on l.on.prefix l.tables.ribs;
  seen : All (IsSeen l.tables.plan) l.seen.items;
  filtered : All (IsFilteredOn l.tables.plan l.on.prefix) l.seen.items;
  bound : length l.seen.items ≤ l.peer;
}
