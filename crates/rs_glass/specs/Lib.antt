-- What the looking glass answers:
pub mod Covering  -- the prefixes that cover one
pub mod Losses  -- how a session was lost
pub mod Treating  -- why an UPDATE is treated as a withdrawal
pub mod Causes  -- why a change came
pub mod Recorded  -- what one file says of a prefix
pub mod Explained  -- why each route is there or not
pub mod Microseconds  -- the microseconds of a record
pub mod Moments  -- seconds and microseconds in their order
pub mod FileSaid  -- what a file says, and by which record
pub mod Happened  -- what happens on a prefix
pub mod Histories  -- what a client gets after each
-- What is kept while files are read:
pub mod Listed  -- what happened so far in a file
pub mod Heard  -- what is heard of each peer
pub mod RoutesLeftView  -- the announcements that still count, by their fields
-- A list that the others need:
pub mod Behind  -- each element and those before it
