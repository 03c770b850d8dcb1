-- Communities by their halves (RFC 1997).
use Rattle.std.specs.Prelude.{ℕ, ◌+◌, ◌*◌, ◌/◌, Bool, false, ◌&&◌, nat_lt, ◌==◌, List, Option, Some, None}
use Rattle.std.specs.List.{list_any}
use Rattle.rs_types.specs.PathAttributes.{CommunityList}

-- The high half of a community is an AS number, and the low half is a number which that AS chose. No community has a
-- half above 65,535.
abbrev pub has_value : List ℕ → ℕ → ℕ → Bool
has_value values high low =
    nat_lt high 65536 && (nat_lt low 65536 && list_any (λ value. value == high * 65536 + low) values)

-- whether COMMUNITIES, if received, has the community of these halves
abbrev pub has_community_in : Option CommunityList → ℕ → ℕ → Bool
has_community_in None high low = false
has_community_in (Some list) high low = has_value list.values high low

-- whether some community has this high half, so that it belongs to the AS of that number
abbrev pub has_value_of : List ℕ → ℕ → Bool
has_value_of values high = list_any (λ value. value / 65536 == high) values

-- whether COMMUNITIES, if received, has some community with this high half
abbrev pub has_community_of_in : Option CommunityList → ℕ → Bool
has_community_of_in None high = false
has_community_of_in (Some list) high = has_value_of list.values high
