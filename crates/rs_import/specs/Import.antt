-- Import policy: which routes are taken in (RFC 4271, section 9.1.1: policy may find a route ineligible). The conditions
-- and their order are our choice; the last one is that of RFC 6811.
use Rattle.std.specs.Prelude.{ℕ, ◌==◌, nat_lt, nat_le, Bool, true, false, not, ◌&&◌, if◌then◌else◌, List, [], ◌∷◌}
use Rattle.std.specs.Prelude.{Option, None, Some, slice_get}
use Rattle.std.specs.List.{list_any, flat_map, find}
use Rattle.std.specs.Option.{option_and_then, option_map_or}
use Rattle.rs_types.specs.AsPath.{first_as_of, numbers_of, path_length_of}
use Rattle.rs_types.specs.FirstFault.{first_fault}
use Rattle.rs_types.specs.IpPrefix.{IpPrefix}
use Rattle.rs_types.specs.PathAttributes.{PathAttributes, PathSegment}
use Rattle.rs_types.specs.declared.as_range.AsRange.{AsRange}
use Rattle.rs_import.specs.declared.filter.Filter.{Filter}
use Rattle.rs_import.specs.declared.filter.Filter.TheVariants as filters
use Rattle.rs_types.specs.declared.pattern.Pattern.{Pattern}
use Rattle.rs_import.specs.declared.policy.ImportRules.{ImportRules}
use Rattle.rs_import.specs.declared.validity.Validity.{Validity}
use Rattle.rs_import.specs.declared.validity.Validity.TheVariants.{Valid, Invalid, NotFound}
use Rattle.rs_types.specs.declared.vrp.Vrp.{Vrp}
use Rattle.rs_import.specs.AsRanges.{is_in_ranges}
use Rattle.rs_import.specs.Patterns.{matches_some}
use Rattle.rs_import.specs.Rpki.{origin_of, validity_of}

-- what is asked of the routes of one peer: whether anything is, and the peer's own lists
pub record PeerImport : Type 0 where
  pub is_asked : Bool
  pub prefix_list : Option (List Pattern)
  pub as_list : Option (List AsRange)

-- import policy: the rules for all peers, and what is asked of each peer, by its number
pub record ImportPolicy : Type 0 where
  pub rules : ImportRules
  pub peers : List PeerImport

-- rules that ask nothing; below, a policy that asks nothing
abbrev pub no_rules : ImportRules
no_rules = record {
  least_len = 0;
  most_len = 32;
  refuse_prefixes = [];
  max_as_path = None;
  refuse_as = [];
  enforce_first_as = false;
  vrps = None;
}

abbrev pub no_import : ImportPolicy
no_import = record { rules = no_rules; peers = [] }

-- whether a length is within the bounds
abbrev pub is_len_taken : ImportRules → ℕ → Bool
is_len_taken rules len = nat_le rules.least_len len && nat_le len rules.most_len

-- whether a number is above a limit, if there is one
abbrev pub is_above : Option ℕ → ℕ → Bool
is_above None number = false
is_above (Some most) number = nat_lt most number

-- whether some AS number in any segment of a path is in the ranges
abbrev pub holds_one_of : List AsRange → List PathSegment → Bool
holds_one_of ranges path = list_any (λ segment. list_any (λ asn. is_in_ranges ranges asn) (numbers_of segment)) path

-- the first AS number of a path, segment by segment, that is in the ranges
abbrev pub refused_as_of : List AsRange → List PathSegment → Option ℕ
refused_as_of ranges path = find (λ asn. is_in_ranges ranges asn) (flat_map numbers_of path)

-- whether a path begins with an AS_SEQUENCE whose first AS number is this one
abbrev pub begins_with : ℕ → List PathSegment → Bool
begins_with asn path = option_map_or (λ first. first == asn) (first_as_of path) false

-- whether a peer's prefix list, if there is one, has an entry that the prefix matches
abbrev pub is_prefix_listed : Option (List Pattern) → IpPrefix → Bool
is_prefix_listed None prefix = true
is_prefix_listed (Some patterns) prefix = matches_some patterns prefix

-- whether a peer's list of AS numbers, if there is one, has the origin AS; NONE is in no list
abbrev pub is_origin_listed : Option (List AsRange) → Option ℕ → Bool
is_origin_listed None origin = true
is_origin_listed (Some ranges) origin = option_map_or (is_in_ranges ranges) origin false

-- whether a validity is Invalid
abbrev pub is_invalid : Validity → Bool
is_invalid Valid = false
is_invalid Invalid = true
is_invalid NotFound = false

-- whether a route is invalid by the VRPs, if there are some
abbrev pub is_rpki_invalid : Option (List Vrp) → IpPrefix → Option ℕ → Bool
is_rpki_invalid None prefix origin = false
is_rpki_invalid (Some vrps) prefix origin = is_invalid (validity_of vrps prefix origin)

-- a test that a route may fail, and the filter that does not take it in then
abbrev pub Test : Type 0
Test = Bool × Filter

-- The tests of a route in their order, for a server and a sender of these AS numbers:
-- - Those of all peers: its prefix length, refused prefixes, the length of AS_PATH, refused AS numbers, the first AS.
-- - Those by the sender's lists: of prefixes, and of origin ASes.
-- - Its validity by RPKI.
abbrev pub import_tests : ImportRules → PeerImport → ℕ → ℕ → IpPrefix → PathAttributes → List Test
import_tests rules peer own_as sender_as prefix attributes =
    (not (is_len_taken rules prefix.len), filters.PrefixLength)
    ∷ (matches_some rules.refuse_prefixes prefix, filters.RefusedPrefix)
    ∷ (is_above rules.max_as_path (path_length_of attributes.path), filters.PathLengthLimit)
    ∷ (holds_one_of rules.refuse_as attributes.path, filters.RefusedAs)
    ∷ (rules.enforce_first_as && not (begins_with sender_as attributes.path), filters.FirstAs)
    ∷ (not (is_prefix_listed peer.prefix_list prefix), filters.PrefixList)
    ∷ (not (is_origin_listed peer.as_list (origin_of own_as attributes.path)), filters.OriginAs)
    ∷ (is_rpki_invalid rules.vrps prefix (origin_of own_as attributes.path), filters.RpkiInvalid) ∷ []

-- the filter that does not take a peer's route in, if anything is asked of the peer
abbrev pub filter_by_peer : ImportRules → ℕ → ℕ → IpPrefix → PathAttributes → PeerImport → Option Filter
filter_by_peer rules own_as sender_as prefix attributes peer =
    if peer.is_asked then first_fault (import_tests rules peer own_as sender_as prefix attributes) else None

-- the filter that does not take a route in, by the number and the AS of its sender; None if it is taken in
abbrev pub filter_of : ImportPolicy → ℕ → ℕ → ℕ → IpPrefix → PathAttributes → Option Filter
filter_of policy own_as number sender_as prefix attributes =
    option_and_then (filter_by_peer policy.rules own_as sender_as prefix attributes) (slice_get policy.peers number)
