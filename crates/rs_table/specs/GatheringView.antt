-- The content of collected changes, by their fields: the routes that the lists leave each peer, and whether its
-- session closed.
use Rattle.std.specs.Prelude.{◌≡◌, length}
use Rattle.rs_table.specs.declared.gathering.Gathering.TheInside.{Inside}
use Rattle.rs_table.specs.Content.{TablesContent}
use Rattle.rs_table.specs.Gathered.{AreLogs, routes_gathered}
use Rattle.rs_table.specs.TablesView.{ribs_by}

abbrev pub gathering_view : Inside → TablesContent
gathering_view fields = record {
  plan = fields.plan.value;
  ribs = ribs_by (routes_gathered fields.losses.items fields.logs.items) 0 fields.closed.items;
}

-- each peer of the plan is open or closed and has a count of losses, and the lists are in order
pub record IsGathering (fields : Inside) : Type 0 where
  pub peers : length fields.closed.items ≡ length fields.plan.value.peers
  pub losses : length fields.losses.items ≡ length fields.plan.value.peers
  pub logs : AreLogs fields.losses.items fields.logs.items
