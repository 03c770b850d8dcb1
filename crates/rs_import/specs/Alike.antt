-- Import policies that say the same, whatever the order of their lists, and whatever stands in them twice.
use Rattle.std.specs.Prelude.{◌≡◌, ◌↔◌, ℕ, ⊤, List, Option, None, Some, slice_get}
use Rattle.std.specs.List.{Contains}
use Rattle.rs_types.specs.declared.as_range.AsRange.{AsRange}
use Rattle.rs_import.specs.declared.policy.ImportRules.{ImportRules}
use Rattle.rs_import.specs.AsRanges.{is_in_ranges}
use Rattle.rs_import.specs.Import.{ImportPolicy, PeerImport}

-- two lists have the same members
abbrev pub HaveSameMembers : {M : Type 0} → List M → List M → Type 0
HaveSameMembers {M} some others = (member : M) → Contains some member ↔ Contains others member

-- two lists of ranges have the same AS numbers
abbrev pub HaveSameNumbers : List AsRange → List AsRange → Type 0
HaveSameNumbers some others = (asn : ℕ) → is_in_ranges some asn ≡ is_in_ranges others asn

-- both are missing, or both are there and alike
abbrev pub AreBoth : {M : Type 0} → (M → M → Type 0) → Option M → Option M → Type 0
AreBoth Alike None None = ⊤
AreBoth Alike None (Some other) = ⊥
AreBoth Alike (Some one) None = ⊥
AreBoth Alike (Some one) (Some other) = Alike one other

-- rules that say the same; below, what is asked of one peer, and whole policies
pub record AreRulesAlike (rules others : ImportRules) : Type 0 where
  pub least_len : rules.least_len ≡ others.least_len
  pub most_len : rules.most_len ≡ others.most_len
  pub refuse_prefixes : HaveSameMembers rules.refuse_prefixes others.refuse_prefixes
  pub max_as_path : rules.max_as_path ≡ others.max_as_path
  pub refuse_as : HaveSameNumbers rules.refuse_as others.refuse_as
  pub enforce_first_as : rules.enforce_first_as ≡ others.enforce_first_as
  pub vrps : AreBoth HaveSameMembers rules.vrps others.vrps

pub record ArePeersAlike (peer other : PeerImport) : Type 0 where
  pub is_asked : peer.is_asked ≡ other.is_asked
  pub prefix_list : AreBoth HaveSameMembers peer.prefix_list other.prefix_list
  pub as_list : AreBoth HaveSameNumbers peer.as_list other.as_list

pub record AreAlike (policy other : ImportPolicy) : Type 0 where
  pub rules : AreRulesAlike policy.rules other.rules
  pub peers : (number : ℕ) → AreBoth ArePeersAlike (slice_get policy.peers number) (slice_get other.peers number)
