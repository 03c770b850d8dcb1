-- Files that are in memory as a whole. Nothing here is from a standard: all of it is our choice.
use Rattle.std.specs.Prelude.{ℕ, List, None}
use Rattle.rs_mrt.specs.MemoryReading.{MemoryReading}

-- a reader of a whole file; none of its reads fails
abbrev pub whole_of : List ℕ → MemoryReading
whole_of file = record { left = file; calls = None; before_failure = None; most = 18446744073709551615; failures = 0 }
