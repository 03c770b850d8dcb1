-- Patterns in the order of their prefixes, each with the nearest one before it that covers it (our choice).
use Rattle.std.specs.Prelude.{◌≡◌, ◌≤◌, ◌<◌, ◌+◌, ◌-◌, ◌*◌, ℕ, true, false, List, length, slice_index_or}
use Rattle.std.specs.List.{AllWithin}
use Rattle.rs_types.specs.IpPrefix.{IpPrefix}
use Rattle.rs_types.specs.Covering.{covers}
use Rattle.rs_import.specs.declared.nesting.Node.{Node}
use Rattle.rs_types.specs.declared.pattern.Pattern.{Pattern}

-- the prefix of a node; below, its pattern
abbrev pub prefix_of : Node → IpPrefix
prefix_of node = record { address = node.address; len = node.len }

abbrev pub pattern_of : Node → Pattern
pattern_of node = record { prefix = prefix_of node; least = node.least; most = node.most }

-- a number by which prefixes are in order: by address, then by length
abbrev pub rank_of : IpPrefix → ℕ
rank_of prefix = prefix.address * 64 + prefix.len

-- the bits past the length are 0
abbrev pub IsWhole : IpPrefix → Type 0
IsWhole prefix = (prefix.len ≤ 32) × (covers prefix prefix ≡ true)

-- Nodes are in the order of their prefixes. Between a node and its parent none covers its prefix.
pub record IsNested (nodes : List Node) : Type 0 where
  pub whole : (k : ℕ) (d : Node) → k < length nodes → IsWhole (prefix_of (slice_index_or nodes k d))
  pub ascending : (i k : ℕ) (d : Node) → i ≤ k → k < length nodes →
      rank_of (prefix_of (slice_index_or nodes i d)) ≤ rank_of (prefix_of (slice_index_or nodes k d))
  pub before : (k : ℕ) (d : Node) → k < length nodes → (slice_index_or nodes k d).parent ≤ k
  pub between : (k j : ℕ) (d : Node) → k < length nodes → (slice_index_or nodes k d).parent ≤ j → j < k →
      covers (prefix_of (slice_index_or nodes j d)) (prefix_of (slice_index_or nodes k d)) ≡ false

-- of the first nodes, so many, no address is above that of the prefix
abbrev pub IsUpTo : List Node → IpPrefix → ℕ → Type 0
IsUpTo nodes prefix end = AllWithin (λ node. node.address ≤ prefix.address) nodes 0 end

-- no pattern behind the first ones, so many, and before the end covers the prefix
abbrev pub IsPassed : List Pattern → IpPrefix → ℕ → ℕ → Type 0
IsPassed patterns prefix count end =
    (count ≤ end) × AllWithin (λ pattern. covers pattern.prefix prefix ≡ false) patterns count end

-- so many patterns stand up to the last one before the end that covers the prefix; 0 if none does
abbrev pub IsLastCover : List Pattern → IpPrefix → ℕ → ℕ → Type 0
IsLastCover patterns prefix end count =
    IsPassed patterns prefix count end
    × (0 < count → AllWithin (λ pattern. covers pattern.prefix prefix ≡ true) patterns (count - 1) count)

-- the pattern is not before any of these in the order of prefixes
abbrev pub IsNotBefore : List Pattern → Pattern → Type 0
IsNotBefore patterns one =
    AllWithin (λ pattern. rank_of pattern.prefix ≤ rank_of one.prefix) patterns 0 (length patterns)
