-- Neighbour groups, by their fields.
use Rattle.std.specs.Prelude.{◌≡◌, ◌<◌, ◌≤◌, ◌%◌, ℕ, List, [], ◌∷◌, length, slice_index, take}
use Rattle.rs_choice.specs.declared.neighbour_groups.Group.{Group}
use Rattle.rs_choice.specs.declared.neighbour_groups.Mark.{Mark}
use Rattle.rs_choice.specs.declared.neighbour_groups.NeighbourGroups.TheInside.{Inside}
use Rattle.rs_choice.specs.declared.neighbour_groups.TheConstants.{CHAINS}
use Rattle.rs_choice.specs.declared.plan.TheConstants.{MAX_PEERS}

-- a group without its neighbour AS
abbrev pub mark_of : Group → Mark
mark_of group = record { place = group.place; keeps_out = group.keeps_out }

-- the groups that have these parts
abbrev pub joined_parts : List Mark → List ℕ → List Group
joined_parts [] neighbours = []
joined_parts (mark ∷ marks) [] = []
joined_parts (mark ∷ marks) (neighbour ∷ neighbours) =
    record { place = mark.place; keeps_out = mark.keeps_out; neighbour = neighbour } ∷ joined_parts marks neighbours

abbrev pub groups_view : Inside → List Group
groups_view fields = take fields.len (joined_parts fields.marks fields.neighbours)

-- neighbour ASes that are equal in their low bits share a chain
abbrev pub chain_of : ℕ → ℕ
chain_of neighbour = neighbour % CHAINS

-- this is the last of the first groups in a chain; any number is if the chain has none of them
abbrev pub IsLastOf : List ℕ → ℕ → ℕ → ℕ → Type 0
IsLastOf neighbours n chain last =
    (i : ℕ) → i < n → chain_of (slice_index neighbours i) ≡ chain
    → (i ≤ last) × (last < n) × (chain_of (slice_index neighbours last) ≡ chain)

-- There is a place for each peer. Each chain begins with its last group, and leads from each group to the one before
-- it.
pub record AreFull (fields : Inside) : Type 0 where
  pub few : fields.len ≤ MAX_PEERS
  pub marks : length fields.marks ≡ MAX_PEERS
  pub neighbours : length fields.neighbours ≡ MAX_PEERS
  pub chains : length fields.latest ≡ CHAINS
  pub places : length fields.earlier ≡ MAX_PEERS
  pub latest : (chain : ℕ) → chain < CHAINS
      → IsLastOf fields.neighbours fields.len chain (slice_index fields.latest chain)
  pub earlier : (i : ℕ) → i < fields.len
      → IsLastOf fields.neighbours i (chain_of (slice_index fields.neighbours i)) (slice_index fields.earlier i)
