-- Which routes a client does not get, and where the choices of two clients differ:
pub mod Missing  -- on one prefix and on all
pub mod MissingCounts  -- how many by sender and reason
pub mod Differences  -- where choices differ
pub mod RowsToCome  -- the rows of a client that are to come, by their fields
pub mod SideBySide  -- those of two clients
pub mod Asked  -- which rows of a table are asked for
-- A summary:
pub mod Findings  -- what is counted on a prefix
pub mod Summary  -- the findings on one prefix and on all
pub mod Tally  -- how often each is made
pub mod Grows  -- findings that are counted one after another
pub mod Joined  -- tallies that are added
pub mod Counted  -- what is counted on some prefixes
pub mod Seen  -- the routes on a prefix as it sees them
pub mod Laws  -- what holds of these
