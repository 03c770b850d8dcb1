-- Large communities by their numbers (RFC 8092).
use Rattle.std.specs.Prelude.{ℕ, ◌/◌, ◌%◌, Bool, ◌&&◌, ◌==◌, List, [], map, length, drop, find, if◌then◌else◌}
use Rattle.std.specs.List.{list_any}
use Rattle.std.specs.Option.{option_map_or}
use Rattle.std.specs.Simd.{first_chunks}
use Rattle.byteorder.specs.Endian.{big_number}
use Rattle.rs_types.specs.PathAttributes.{PathAttributes, PassedOn}
use Rattle.rs_choice.specs.declared.large_community.TheConstants.{LARGE_COMMUNITY, LARGE_LEN}

-- A large community: three numbers of four octets (section 3). The Global Administrator is an AS number, and that AS
-- chose the two parts of Local Data.
pub record LargeCommunity : Type 0 where
  pub global_admin : ℕ
  pub first : ℕ
  pub second : ℕ

-- the large community that 12 octets spell (section 3)
abbrev pub large_community_of : List ℕ → LargeCommunity
large_community_of octets =
    record {
      global_admin = big_number 4 octets;
      first = big_number 4 (drop 4 octets);
      second = big_number 4 (drop 8 octets);
    }

-- The value of the attribute LARGE_COMMUNITY, type 32: large communities of 12 octets each, one after another (section
-- 3). A value of another length has none (our choice).
abbrev pub large_communities_in : List ℕ → List LargeCommunity
large_communities_in value =
    if length value % LARGE_LEN == 0
    then map large_community_of (first_chunks LARGE_LEN (length value / LARGE_LEN) value)
    else []

-- the value of LARGE_COMMUNITY, which is among the unrecognized attributes; no octets if it was not received
abbrev pub large_value : List PassedOn → List ℕ
large_value others = option_map_or (λ other. other.value) (find (λ other. other.kind == LARGE_COMMUNITY) others) []

-- the large communities of a route
abbrev pub large_communities_of : PathAttributes → List LargeCommunity
large_communities_of attributes = large_communities_in (large_value attributes.others)

-- a large community has this Global Administrator and this first part; and this second part too
abbrev pub is_large_of : LargeCommunity → ℕ → ℕ → Bool
is_large_of one global first = one.global_admin == global && one.first == first

abbrev pub is_large : LargeCommunity → ℕ → ℕ → ℕ → Bool
is_large one global first second = is_large_of one global first && one.second == second

-- whether some one of these large communities has these three numbers
abbrev pub has_large_in : List LargeCommunity → ℕ → ℕ → ℕ → Bool
has_large_in communities global first second = list_any (λ one. is_large one global first second) communities

-- whether some large community of a route has these three numbers
abbrev pub has_large_community : PathAttributes → ℕ → ℕ → ℕ → Bool
has_large_community attributes global first second =
    has_large_in (large_communities_of attributes) global first second

-- whether some large community of a route has this Global Administrator and this first part
abbrev pub has_large_community_of : PathAttributes → ℕ → ℕ → Bool
has_large_community_of attributes global first =
    list_any (λ one. is_large_of one global first) (large_communities_of attributes)
