-- Tables of one exchange that have different prefixes, and are merged.
use Rattle.std.specs.Prelude.{◌≡◌, ◌≢◌, ℕ, true, false, List, All, Some, slice_get}
use Rattle.std.specs.FinMap.{get}
use Rattle.rs_types.specs.IpPrefix.{IpPrefix}
use Rattle.rs_table.specs.Content.{TablesContent, rib_of}
use Rattle.rs_table.specs.Listing.{is_held}

-- two parts of one exchange's tables: they have one plan and no prefix in common, and the same peers are closed in
-- both
pub record AreParts (one other : TablesContent) : Type 0 where
  pub plan : one.plan ≡ other.plan
  pub apart : (prefix : IpPrefix) → is_held one.ribs prefix ≡ true → is_held other.ribs prefix ≡ false
  pub closed : (peer : ℕ) → (rib_of one peer).closed ≡ (rib_of other peer).closed

-- no part has the prefix, except perhaps the part at this place
abbrev pub IsOfPart : List TablesContent → IpPrefix → ℕ → Type 0
IsOfPart parts prefix place =
    (other : ℕ) → (part : TablesContent) → slice_get parts other ≡ Some part → other ≢ place
    → is_held part.ribs prefix ≡ false

-- The merged tables of some parts have the plan of the parts, and a peer is closed if it is closed in the parts. On
-- each prefix, each peer has the route that it has in the one part that may have the prefix.
pub record IsMerged (parts : List TablesContent) (merged : TablesContent) : Type 0 where
  pub plan : All (λ part. merged.plan ≡ part.plan) parts
  pub closed : All (λ part. (peer : ℕ) → (rib_of merged peer).closed ≡ (rib_of part peer).closed) parts
  pub routes : (prefix : IpPrefix) → (place : ℕ) → (part : TablesContent) → slice_get parts place ≡ Some part
      → IsOfPart parts prefix place
      → (peer : ℕ) → get (rib_of merged peer).routes prefix ≡ get (rib_of part peer).routes prefix

-- the merged tables of two parts: on each prefix, each peer has the route that it has in one of them
pub record IsJoined (one other joined : TablesContent) : Type 0 where
  pub plan : joined.plan ≡ one.plan
  pub closed : (peer : ℕ) → (rib_of joined peer).closed ≡ (rib_of one peer).closed
  pub from_one : (prefix : IpPrefix) → is_held other.ribs prefix ≡ false → (peer : ℕ)
      → get (rib_of joined peer).routes prefix ≡ get (rib_of one peer).routes prefix
  pub from_other : (prefix : IpPrefix) → is_held one.ribs prefix ≡ false → (peer : ℕ)
      → get (rib_of joined peer).routes prefix ≡ get (rib_of other peer).routes prefix
