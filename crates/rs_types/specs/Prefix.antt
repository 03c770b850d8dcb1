-- Address prefixes and the fields that list them (RFC 4271, section 4.3).
use Rattle.std.specs.Prelude.{◌≡◌, ℕ, ◌+◌, ◌-◌, ◌*◌, ◌/◌, ◌^◌, Bool, ◌&&◌, nat_le, nat_lt, ◌==◌, List, [], ◌∷◌, length}
use Rattle.std.specs.Prelude.{take, drop, Option, Some, None, if◌then◌else◌}
use Rattle.byteorder.specs.Endian.{big_bytes, big_number}
use Rattle.rs_types.specs.IpPrefix.{IpPrefix, IsPrefix}
use Rattle.rs_types.specs.Parts.{IsSpelledBy, parts_of}

-- the prefix of the first len bits of an address; all other bits are cleared
abbrev pub network_of : ℕ → ℕ → IpPrefix
network_of address len = record { address = address / 2 ^ (32 - len) * 2 ^ (32 - len); len = len }

-- the least number of octets that has room for so many bits
abbrev pub octets_for : ℕ → ℕ
octets_for bits = (bits + 7) / 8

-- a prefix as it is written: its length in bits, and as few octets of its address as have room for so many bits
abbrev pub spelled_prefix : IpPrefix → List ℕ
spelled_prefix prefix = prefix.len ∷ take (octets_for prefix.len) (big_bytes 4 prefix.address)

-- Octets spell a prefix: its length in bits, and then as few octets as have room for so many bits. The first bits of
-- these octets are those of the address. The bits behind have no meaning.
abbrev pub Spells : List ℕ → IpPrefix → Type 0
Spells [] prefix = ⊥
Spells (len ∷ body) prefix =
    (len ≡ prefix.len)
    × (length body ≡ octets_for len)
    × (big_number (octets_for len) body / 2 ^ (8 * octets_for len - len) ≡ prefix.address / 2 ^ (32 - len))
    × IsPrefix prefix.address prefix.len

-- a field lists prefixes: it is their spellings, in order, and nothing is left over
abbrev pub IsField : List ℕ → List IpPrefix → Type 0
IsField octets prefixes = IsSpelledBy Spells octets prefixes []

-- the prefix that the octets begin with, and the octets behind it
unfoldable pub prefix_at : List ℕ → Option (IpPrefix × List ℕ)
prefix_at [] = None
prefix_at (len ∷ octets) =
    if nat_lt 32 len then None
    else if nat_lt (length octets) (octets_for len) then None
    else Some (network_of (big_number 4 (take (octets_for len) octets)) len, drop (octets_for len) octets)

-- the prefixes that a field lists, or None if the field is at fault
abbrev pub prefixes_of : List ℕ → Option (List IpPrefix)
prefixes_of octets = let parts = parts_of prefix_at octets in if length parts.1 == 0 then Some parts.0 else None

-- a multicast prefix lies inside 224.0.0.0/4: at least four bits count, and the first four are 1110
abbrev pub is_multicast : IpPrefix → Bool
is_multicast prefix = nat_le 4 prefix.len && (prefix.address / 2 ^ 28 == 14)
