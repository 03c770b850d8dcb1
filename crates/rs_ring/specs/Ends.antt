-- The two ends of a ring.
use Rattle.std.specs.Prelude.{ℕ, List}
use Rattle.std.specs.declared.alloc.Global.{Global}
use denote.RawPtr.{Ptr}
use Rattle.rtrb.specs.Shared.{Names}

-- What identifies a ring, equal on both ends: where its positions and its items are in memory, and the history that
-- both ends share.
pub record Ring : Type 0 where
  pub positions : Ptr
  pub slots : Ptr
  pub history : Names
  pub heap : Global

-- The sending end: its ring, the ring's capacity, the items that were sent, and how much room is left as far as this
-- end knows.
pub record Sending (T : Type 0) : Type 0 where
  pub ring : Ring
  pub capacity : ℕ
  pub sent : List T
  pub room : ℕ

-- the receiving end: the items that were received, and the items that wait as far as this end knows
pub record Receiving (T : Type 0) : Type 0 where
  pub ring : Ring
  pub capacity : ℕ
  pub received : List T
  pub waiting : List T

-- a sending end that will send no more
pub record Sent (T : Type 0) : Type 0 where
  pub ring : Ring
  pub sent : List T
