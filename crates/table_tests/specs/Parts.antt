-- Parts of one exchange's tables that have no prefix in common, since each has prefixes of one length alone.
use Rattle.std.specs.Prelude.{◌≡◌, ℕ, List, All, Some}
use Rattle.rs_update.specs.IpPrefix.{IpPrefix}
use Rattle.rs_session.specs.Change.{Change}
use Rattle.rs_choice.specs.Plan.{Plan}
use Rattle.rs_table.specs.Content.{RibContent, TablesContent, rib_of, rib_left}
use Rattle.rs_table.specs.Left.{HasNoClose, body_prefix}

-- a change on a prefix of this length, or on no prefix
abbrev pub IsOnLength : ℕ → Change → Type 0
IsOnLength len change = (prefix : IpPrefix) → body_prefix change.body ≡ Some prefix → prefix.len ≡ len

-- the content of a peer is what changes on prefixes of this length leave; none of them is a close
pub record IsLeftOnLength (len : ℕ) (rib : RibContent) : Type 0 where
  pub changes : List Change
  pub on : All (IsOnLength len) changes
  pub unclosed : HasNoClose changes
  pub left_is : rib ≡ rib_left changes

-- tables of the plan, in which each peer's content is left by changes on prefixes of this length
pub record IsPart (plan : Plan) (len : ℕ) (tables : TablesContent) : Type 0 where
  pub plan_is : tables.plan ≡ plan
  pub ribs : (peer : ℕ) → IsLeftOnLength len (rib_of tables peer)
