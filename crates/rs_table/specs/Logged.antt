-- A change in a list (our choice).
use Rattle.std.specs.Prelude.{ℕ, Option}
use Rattle.rs_types.specs.IpPrefix.{IpPrefix}
use Rattle.rs_types.specs.PathAttributes.{PathAttributes}

-- An entry: its prefix, its time in seconds, and its peer. It says how many sessions the peer had lost before it
-- came. An announcement has attributes; a withdrawal has none.
pub record Logged : Type 0 where
  pub prefix : IpPrefix
  pub time : ℕ
  pub losses : ℕ
  pub peer : ℕ
  pub attributes : Option PathAttributes
