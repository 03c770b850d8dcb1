-- The origin AS of a route, and its validity by RPKI (RFC 6811, section 2).
use Rattle.std.specs.Prelude.{ℕ, ◌==◌, nat_le, Bool, false, not, ◌&&◌, IsTrue, IsFalse, if◌then◌else◌, List, [], ◌∷◌}
use Rattle.std.specs.Prelude.{Option, None, Some, map}
use Rattle.std.specs.List.{list_any, Contains}
use Rattle.rs_types.specs.IpPrefix.{IpPrefix}
use Rattle.rs_types.specs.Covering.{covers}
use Rattle.rs_types.specs.PathAttributes.{PathSegment, AsSet, AsSequence}
use Rattle.rs_types.specs.declared.vrp.Vrp.{Vrp}
use Rattle.rs_import.specs.declared.validity.Validity.{Validity}
use Rattle.rs_import.specs.declared.validity.Validity.TheVariants.{Valid, Invalid, NotFound}

-- the last member of a list; the other value if the list is empty
abbrev pub last_or : {M : Type 0} → M → List M → M
last_or other [] = other
last_or other (member ∷ later) = last_or member later

-- the origin AS that a final segment gives: the rightmost number of an AS_SEQUENCE; NONE for an AS_SET
abbrev pub origin_of_segment : PathSegment → Option ℕ
origin_of_segment (AsSet numbers) = None
origin_of_segment (AsSequence numbers) = last_or None (map (λ number. Some number) numbers)

-- The origin AS of a route, by its AS_PATH: that of the final segment. It is the server's own AS if AS_PATH is empty.
abbrev pub origin_of : ℕ → List PathSegment → Option ℕ
origin_of own_as path = last_or (Some own_as) (map origin_of_segment path)

-- a VRP covers a prefix if its own prefix covers it
abbrev pub is_covering : IpPrefix → Vrp → Bool
is_covering prefix vrp = covers vrp.prefix prefix

-- the AS of a VRP is the origin AS; AS 0 is that of no route, and NONE equals no AS
abbrev pub has_origin : Option ℕ → Vrp → Bool
has_origin None vrp = false
has_origin (Some asn) vrp = vrp.asn == asn && not (vrp.asn == 0)

-- A VRP matches a route if it covers the route's prefix, if the prefix is no longer than its maximum length, and if its
-- AS is the route's origin AS.
abbrev pub is_matching : IpPrefix → Option ℕ → Vrp → Bool
is_matching prefix origin vrp = is_covering prefix vrp && (nat_le prefix.len vrp.max_len && has_origin origin vrp)

-- What the validity of a route means. Valid: some VRP matches the route. Invalid: some VRP covers it, and none
-- matches it. Not found: no VRP covers it.
abbrev pub HasValidity : List Vrp → IpPrefix → Option ℕ → Validity → Type 0
HasValidity vrps prefix origin Valid = (vrp : Vrp) × Contains vrps vrp × IsTrue (is_matching prefix origin vrp)
HasValidity vrps prefix origin Invalid =
    ((vrp : Vrp) × Contains vrps vrp × IsTrue (is_covering prefix vrp))
    × ((vrp : Vrp) → Contains vrps vrp → IsFalse (is_matching prefix origin vrp))
HasValidity vrps prefix origin NotFound = (vrp : Vrp) → Contains vrps vrp → IsFalse (is_covering prefix vrp)

-- the validity of a route, computed
abbrev pub validity_of : List Vrp → IpPrefix → Option ℕ → Validity
validity_of vrps prefix origin =
    if list_any (is_matching prefix origin) vrps then Valid
    else if list_any (is_covering prefix) vrps then Invalid
    else NotFound
