-- Cells that are being made out of a compacted list (our choice).
use Rattle.std.specs.Prelude.{◌≡◌, ◌≢◌, ℕ, Bool, true, if◌then◌else◌, List, [], map}
use Rattle.std.specs.declared.cmp.Ordering.TheVariants.{Less}
use Rattle.rs_types.specs.IpPrefix.{IpPrefix}
use Rattle.rs_types.specs.PrefixOrder.{prefix_cmp, same_prefix}
use Rattle.rs_choice.specs.Decision.{SentRoute}
use Rattle.rs_choice.specs.Held.{sent_of_held, AreTakenBy}
use Rattle.rs_choice.specs.Plan.{Plan}
use Rattle.rs_table.specs.declared.settling.Making.{Making}
use Rattle.rs_table.specs.ByPeer.{IsRow}
use Rattle.rs_table.specs.Cell.{AreHeld}
use Rattle.rs_table.specs.Cells.{routes_at, AreKeptCells}
use Rattle.rs_table.specs.Gathered.{logged_cmp}
use Rattle.rs_table.specs.Logged.{Logged}

-- the routes on the current prefix
abbrev pub routes_here : Making → List SentRoute
routes_here making = map sent_of_held making.held.items

-- the routes on each prefix so far
abbrev pub routes_so_far : Making → IpPrefix → List SentRoute
routes_so_far making prefix =
    if same_prefix prefix making.prefix then routes_here making else routes_at making.cells.entries prefix

-- the prefixes before the current one have cells, and no other prefixes have
pub record IsMaking (keeps_room : Bool) (plan : Plan) (making : Making) : Type 0 where
  pub held : AreHeld plan making.held.items
  pub taken : AreTakenBy plan making.prefix making.held.items
  pub cells : AreKeptCells keeps_room plan making.cells.entries
  pub none : (prefix : IpPrefix) → prefix_cmp prefix making.prefix ≢ Less → routes_at making.cells.entries prefix ≡ []

-- one entry comes before another, by prefix and then by peer
abbrev pub IsBefore : Logged → Logged → Type 0
IsBefore one later = logged_cmp one later ≡ Less

-- An entry may come next. It is not on a prefix before the current one. If it is on the current prefix, its peer
-- comes after all peers so far.
pub record IsNext (making : Making) (entry : Logged) : Type 0 where
  pub ascends : prefix_cmp entry.prefix making.prefix ≢ Less
  pub above : same_prefix entry.prefix making.prefix ≡ true → IsRow 0 entry.peer (routes_here making)

-- if a peer comes after all peers with routes on a prefix, it still does
abbrev pub StaysAbove : IpPrefix → Making → Making → Type 0
StaysAbove prefix making later =
    (peer : ℕ) → (same_prefix prefix making.prefix ≡ true → IsRow 0 peer (routes_here making))
    → IsRow 0 peer (routes_here later)
