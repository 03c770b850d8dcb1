-- The prefixes that cover a prefix, and on which of them peers have left routes (RFC 4271, section 9.1.4).
use Rattle.std.specs.Prelude.{◌≡◌, ◌≤◌, true, false, List}
use Rattle.rs_update.specs.Covering.{covers}
use Rattle.rs_update.specs.IpPrefix.{IpPrefix}
use Rattle.rs_table.specs.Content.{RibContent}
use Rattle.rs_table.specs.Listing.{is_held}

-- no peer has left a route on any prefix that covers this prefix
abbrev pub NoneIsHeld : List RibContent → IpPrefix → Type 0
NoneIsHeld ribs prefix = (wide : IpPrefix) → covers wide prefix ≡ true → is_held ribs wide ≡ false

-- of the prefixes that cover this prefix, this is the longest on which some peer has left a route
pub record IsLongestHeld (ribs : List RibContent) (prefix longest : IpPrefix) : Type 0 where
  pub covering : covers longest prefix ≡ true
  pub held : is_held ribs longest ≡ true
  pub others : (wide : IpPrefix) → covers wide prefix ≡ true → is_held ribs wide ≡ true → wide.len ≤ longest.len
