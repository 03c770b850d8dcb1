-- Laws of import policy and of validity by RPKI.
use Rattle.std.specs.Prelude.{◌≡◌, ◌≤◌, ◌↔◌, ℕ, true, IsFalse, List, Option, None, Some, slice_get}
use Rattle.rs_types.specs.IpPrefix.{IpPrefix}
use Rattle.rs_types.specs.PathAttributes.{PathAttributes}
use Rattle.rs_types.specs.declared.as_range.AsRange.{AsRange}
use Rattle.rs_types.specs.declared.pattern.Pattern.{Pattern}
use Rattle.rs_import.specs.declared.validity.Validity.{Validity}
use Rattle.rs_types.specs.declared.vrp.Vrp.{Vrp}
use Rattle.rs_import.specs.Alike.{AreAlike, HaveSameMembers, HaveSameNumbers}
use Rattle.rs_import.specs.Import.{ImportPolicy, PeerImport, filter_by_peer, filter_of, no_import, no_rules}
use Rattle.rs_import.specs.Patterns.{matches_some}
use Rattle.rs_import.specs.Rpki.{HasValidity, validity_of}

-- a route has just one validity: the one that is computed
abbrev pub ValidityIsComputed : Type 0
ValidityIsComputed =
    (vrps : List Vrp) (prefix : IpPrefix) (origin : Option ℕ) (validity : Validity)
    → HasValidity vrps prefix origin validity ↔ (validity ≡ validity_of vrps prefix origin)

-- the validity of a route depends neither on the order of the VRPs nor on repeated ones
abbrev pub VrpsInAnyOrder : Type 0
VrpsInAnyOrder =
    (some others : List Vrp) → HaveSameMembers some others → (prefix : IpPrefix) (origin : Option ℕ)
    → validity_of some prefix origin ≡ validity_of others prefix origin

-- likewise which prefixes match some pattern; below, which AS numbers are in some range
abbrev pub PatternsInAnyOrder : Type 0
PatternsInAnyOrder =
    (some others : List Pattern) → HaveSameMembers some others → (prefix : IpPrefix)
    → matches_some some prefix ≡ matches_some others prefix

abbrev pub RangesInAnyOrder : Type 0
RangesInAnyOrder =
    (some others : List AsRange) → HaveSameMembers some others → HaveSameNumbers some others

-- policies that say the same filter the same routes, each for the same reason
abbrev pub AlikeFilterAlike : Type 0
AlikeFilterAlike =
    (policy other : ImportPolicy) → AreAlike policy other
    → (own_as number sender_as : ℕ) (prefix : IpPrefix) (attributes : PathAttributes)
    → filter_of policy own_as number sender_as prefix attributes
    ≡ filter_of other own_as number sender_as prefix attributes

-- import policy that asks nothing takes every route in
abbrev pub NoImportTakesAll : Type 0
NoImportTakesAll =
    (own_as number sender_as : ℕ) (prefix : IpPrefix) (attributes : PathAttributes)
    → filter_of no_import own_as number sender_as prefix attributes ≡ None

-- a route of a peer of which nothing is asked is taken in
abbrev pub UnaskedAreTaken : Type 0
UnaskedAreTaken =
    (policy : ImportPolicy) (peer : PeerImport) (own_as number sender_as : ℕ)
    (prefix : IpPrefix) (attributes : PathAttributes)
    → slice_get policy.peers number ≡ Some peer → IsFalse peer.is_asked
    → filter_of policy own_as number sender_as prefix attributes ≡ None

-- rules that ask nothing take in every route of a peer without lists
abbrev pub NoRulesTakeAll : Type 0
NoRulesTakeAll =
    (own_as sender_as : ℕ) (prefix : IpPrefix) (attributes : PathAttributes) → prefix.len ≤ 32
    → filter_by_peer no_rules own_as sender_as prefix attributes
    (record { is_asked = true; prefix_list = None; as_list = None })
    ≡ None
