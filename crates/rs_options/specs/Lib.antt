pub mod Argument  -- an option of the command as a row of a table
pub mod CommandLine  -- the command of the route server, and what its words ask for
pub mod Standard  -- the standards for faults, by their names
