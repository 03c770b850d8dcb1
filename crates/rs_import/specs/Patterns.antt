-- Patterns of prefixes (our choice: those of BIRD's prefix sets).
use Rattle.std.specs.Prelude.{nat_le, ◌≤◌, Bool, ◌&&◌, IsTrue, List}
use Rattle.std.specs.List.{All, list_any}
use Rattle.rs_types.specs.IpPrefix.{IpPrefix}
use Rattle.rs_types.specs.Covering.{covers}
use Rattle.rs_types.specs.declared.pattern.Pattern.{Pattern}

-- a pattern matches the prefixes that its prefix covers, if their length is from its least to its most
abbrev pub is_match : IpPrefix → Pattern → Bool
is_match prefix pattern =
    covers pattern.prefix prefix && (nat_le pattern.least prefix.len && nat_le prefix.len pattern.most)

-- whether some pattern matches the prefix
abbrev pub matches_some : List Pattern → IpPrefix → Bool
matches_some patterns prefix = list_any (is_match prefix) patterns

-- no pattern that matches the prefix has a longer prefix than this one
abbrev pub IsMostSpecific : List Pattern → IpPrefix → Pattern → Type 0
IsMostSpecific patterns prefix found =
    All (λ pattern. IsTrue (is_match prefix pattern) → pattern.prefix.len ≤ found.prefix.len) patterns
