-- The prefixes that cover a prefix (RFC 4271, section 9.1.4).
use Rattle.std.specs.Prelude.{nat_lt, Bool, false, if◌then◌else◌, List}
use Rattle.std.specs.List.{list_any}
use Rattle.rs_types.specs.IpPrefix.{IpPrefix}
use Rattle.rs_types.specs.Prefix.{network_of}
use Rattle.rs_types.specs.PrefixOrder.{same_prefix}

-- one prefix covers another if it is not longer, and if its bits are the first bits of the other; each prefix covers
-- itself
abbrev pub covers : IpPrefix → IpPrefix → Bool
covers wide prefix =
    if nat_lt prefix.len wide.len then false else same_prefix wide (network_of prefix.address wide.len)

-- whether some prefix of a list covers this prefix
abbrev pub lists_cover : IpPrefix → List IpPrefix → Bool
lists_cover prefix prefixes = list_any (λ listed. covers listed prefix) prefixes
