-- Policies that say the same answer each test alike.
use Rattle.std.proofs.Common.{◌≡◌, refl, ℕ, Bool, List, [], ◌∷◌, Option, None, Some}
use Rattle.std.specs.List.{list_any}
use Rattle.std.specs.Option.{option_and_then}
use Rattle.rs_types.specs.AsPath.{numbers_of}
use Rattle.rs_types.specs.IpPrefix.{IpPrefix}
use Rattle.rs_types.specs.PathAttributes.{PathAttributes, PathSegment}
use Rattle.rs_types.specs.declared.as_range.AsRange.{AsRange}
use Rattle.rs_types.specs.declared.pattern.Pattern.{Pattern}
use Rattle.rs_import.specs.declared.policy.ImportRules.{ImportRules}
use Rattle.rs_types.specs.declared.vrp.Vrp.{Vrp}
use Rattle.rs_import.specs.Alike.{AreBoth, ArePeersAlike, AreRulesAlike, HaveSameMembers, HaveSameNumbers}
use Rattle.rs_import.specs.AsRanges.{is_in_ranges}
use Rattle.rs_import.specs.Import.{PeerImport, filter_by_peer, holds_one_of, is_origin_listed, is_prefix_listed, is_rpki_invalid}
use Rattle.rs_import.specs.Patterns.{is_match}
use Rattle.rs_import.specs.Rpki.{is_covering, is_matching, origin_of}
use Rattle.rs_import.proofs.MemberLemmas.{any-same}

any-alike : {M : Type 0} (P Q : M → Bool) → ((x : M) → P x ≡ Q x) → (xs : List M) → list_any P xs ≡ list_any Q xs
any-alike P Q same [] = refl
any-alike P Q same (x ∷ xs) = rw (same x, any-alike P Q same xs) refl

path-alike : (some others : List AsRange) → HaveSameNumbers some others → (path : List PathSegment)
    → holds_one_of some path ≡ holds_one_of others path
path-alike some others same path =
    any-alike (λ segment. list_any (λ asn. is_in_ranges some asn) (numbers_of segment))
    (λ segment. list_any (λ asn. is_in_ranges others asn) (numbers_of segment))
    (λ segment. any-alike (λ asn. is_in_ranges some asn) (λ asn. is_in_ranges others asn) same (numbers_of segment)) path

prefix_list-alike : (one other : Option (List Pattern)) → AreBoth HaveSameMembers one other → (q : IpPrefix)
    → is_prefix_listed one q ≡ is_prefix_listed other q
prefix_list-alike None None same q = refl
prefix_list-alike None (Some others) same q = absurd same
prefix_list-alike (Some some) None same q = absurd same
prefix_list-alike (Some some) (Some others) same q = any-same (is_match q) some others same

as_list-alike : (one other : Option (List AsRange)) → AreBoth HaveSameNumbers one other → (origin : Option ℕ)
    → is_origin_listed one origin ≡ is_origin_listed other origin
as_list-alike None None same origin = refl
as_list-alike None (Some others) same origin = absurd same
as_list-alike (Some some) None same origin = absurd same
as_list-alike (Some some) (Some others) same None = refl
as_list-alike (Some some) (Some others) same (Some asn) = same asn

vrps-alike : (one other : Option (List Vrp)) → AreBoth HaveSameMembers one other → (q : IpPrefix) (origin : Option ℕ)
    → is_rpki_invalid one q origin ≡ is_rpki_invalid other q origin
vrps-alike None None same q origin = refl
vrps-alike None (Some others) same q origin = absurd same
vrps-alike (Some some) None same q origin = absurd same
vrps-alike (Some some) (Some others) same q origin =
    rw (any-same (is_matching q origin) some others same, any-same (is_covering q) some others same) refl

module _ (rules others : ImportRules) (alike : AreRulesAlike rules others) (own_as sender_as : ℕ) (q : IpPrefix) (attributes : PathAttributes) where
  peer-alike : (peer other : PeerImport) → ArePeersAlike peer other
      → filter_by_peer rules own_as sender_as q attributes peer ≡ filter_by_peer others own_as sender_as q attributes other
  peer-alike peer other same = rw (
    same.is_asked,
    alike.least_len,
    alike.most_len,
    any-same (is_match q) rules.refuse_prefixes others.refuse_prefixes alike.refuse_prefixes,
    alike.max_as_path,
    path-alike rules.refuse_as others.refuse_as alike.refuse_as attributes.path,
    alike.enforce_first_as,
    prefix_list-alike peer.prefix_list other.prefix_list same.prefix_list q,
    as_list-alike peer.as_list other.as_list same.as_list (origin_of own_as attributes.path),
    vrps-alike rules.vrps others.vrps alike.vrps q (origin_of own_as attributes.path),
  ) refl

  pub peers-alike : (one other : Option PeerImport) → AreBoth ArePeersAlike one other
      → option_and_then (filter_by_peer rules own_as sender_as q attributes) one
      ≡ option_and_then (filter_by_peer others own_as sender_as q attributes) other
  peers-alike None None same = refl
  peers-alike None (Some other) same = absurd same
  peers-alike (Some peer) None same = absurd same
  peers-alike (Some peer) (Some other) same = peer-alike peer other same
