-- Where the dumps of a run go:
pub mod Outlet  -- what an outlet has kept
pub mod Started  -- for which dumps a writer is out
