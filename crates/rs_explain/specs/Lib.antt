-- Why a client gets a route or not:
pub mod LastSaid  -- what a list of changes says last of a prefix
pub mod Reasons  -- the condition or rule that stops a route
pub mod Filtered  -- the condition of import policy that does, with its value
pub mod Removals  -- the step that removes a candidate
pub mod Explanations  -- the first case that holds
pub mod MissingReasons  -- the reason for which a client does not get a route
pub mod Laws  -- what holds of all of these
-- How it is found:
pub mod Contenders  -- candidates by what decisions ask of them
pub mod Candidates  -- candidates that are collected once
