-- The order of prefixes: by address, then by length (our choice).
use Rattle.std.specs.Prelude.{Bool}
use Rattle.std.specs.Ordering.{eq_by_cmp, nat_cmp, ordering_then}
use Rattle.std.specs.declared.cmp.Ordering.{Ordering}
use Rattle.rs_types.specs.IpPrefix.{IpPrefix}

abbrev pub prefix_cmp : IpPrefix → IpPrefix → Ordering
prefix_cmp one other = ordering_then (nat_cmp one.address other.address) (nat_cmp one.len other.len)

-- whether two prefixes are one and the same: their addresses and their lengths are equal
abbrev pub same_prefix : IpPrefix → IpPrefix → Bool
same_prefix = eq_by_cmp prefix_cmp
