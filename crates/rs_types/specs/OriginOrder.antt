-- The order of origins: IGP, then EGP, then INCOMPLETE (RFC 4271, section 9.1.2.2, b).
use Rattle.std.specs.Ordering.{nat_cmp}
use Rattle.std.specs.declared.cmp.Ordering.{Ordering}
use Rattle.rs_types.specs.declared.values.Origin.{Origin}
use Rattle.rs_types.specs.Spelling.{origin_code}

-- the lower code comes first
abbrev pub origin_cmp : Origin → Origin → Ordering
origin_cmp one other = nat_cmp (origin_code one) (origin_code other)
