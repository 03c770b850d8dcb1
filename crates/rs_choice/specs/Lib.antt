-- What the standards say, and export policy:
pub mod Plan  -- the server and its peers
pub mod Eligibility  -- which routes may be candidates
pub mod Acceptance  -- which routes import policy takes in
pub mod LargeCommunity  -- large communities by their numbers
pub mod Policy  -- which routes a client may get
pub mod Decision  -- the six steps and the choice
pub mod Clients  -- what each client gets
pub mod Comparison  -- two candidates by several steps at once
pub mod Laws  -- what holds of all of these
pub mod Naturality  -- what the choice does not look at
-- How the code decides:
pub mod PolicyCase  -- the case of export policy that communities of one kind name
pub mod Candidacy  -- what is asked of a route alone
pub mod Held  -- routes as they are held for decisions
pub mod Entrants  -- what takes part in a decision
pub mod Scan  -- a pass over candidates
pub mod Grouping  -- a pass by neighbour groups
pub mod GroupsView  -- the groups by their fields
pub mod Sharing  -- what all clients share
pub mod Contenders  -- candidates without those that are outdone
-- How a plan is checked and kept:
pub mod Checks  -- its tests over peers as they are configured
pub mod FaultNumber  -- the number of its fault
pub mod Exchange  -- what is kept beside it
pub mod Refusal  -- who refuses whom, by name
-- What the contracts name of the crates below:
pub use Rattle.rs_import.specs.Import
