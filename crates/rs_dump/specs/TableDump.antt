-- A dump of a client's table that is being written. Nothing here is from a standard: all of it is our choice.
use Rattle.std.specs.Prelude.{ℕ, List}

-- the octets that are left to write of a dump, how many rows are left to spell, and how many are spelled
pub record ToWrite : Type 0 where
  pub octets : List ℕ
  pub rows : ℕ
  pub spelled : ℕ
