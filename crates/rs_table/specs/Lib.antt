-- What the standards say:
pub mod Left  -- the routes that a list of changes leaves
pub mod Content  -- what tables hold
pub mod Listing  -- the prefixes that are held
pub mod Table  -- what each client gets, and why
pub mod Merge  -- tables made one
pub mod Laws  -- what holds of all of these
pub mod Examples  -- worked examples
-- How tables are kept:
pub mod ByPeer  -- routes on one prefix, by their peers
pub mod Cell  -- what is kept of one prefix
pub mod Cells  -- the cells of all prefixes
pub mod Counts  -- how many routes each peer has left
pub mod Logged  -- a change in a list
pub mod LoggedView  -- the same by its fields
pub mod Gathered  -- changes in lists, and what they leave
pub mod Making  -- cells of a list under way
pub mod GatheringView  -- what was gathered by its fields
pub mod ClientRowsView  -- the rows of a client still to come, by their fields
pub mod PrefixRoutes  -- the routes on one prefix
pub mod CellView  -- a cell by its fields
pub mod TablesView  -- the tables by their fields
pub mod RouteView  -- routes and rows by their fields
pub mod Codes  -- codes of values
-- What the contracts name of the crates below:
pub use Rattle.rs_types.specs.IpPrefix
pub use Rattle.rs_types.specs.PathAttributes
pub use Rattle.rs_change.specs.Change
pub use Rattle.rs_types.specs.PrefixOrder
pub use Rattle.rs_choice.specs.Clients
pub use Rattle.rs_choice.specs.Decision
pub use Rattle.rs_choice.specs.Eligibility
pub use Rattle.rs_choice.specs.Held
pub use Rattle.rs_choice.specs.Plan
pub use Rattle.rs_choice.specs.Policy
