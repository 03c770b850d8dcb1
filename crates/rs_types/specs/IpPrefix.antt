-- An IPv4 address prefix (RFC 4271, section 4.3).
use Rattle.std.specs.Prelude.{◌≡◌, ℕ, ◌-◌, ◌^◌, ◌%◌, ◌≤◌}

-- an address as a number of 32 bits, and how many of its first bits count
pub record IpPrefix : Type 0 where
  pub address : ℕ
  pub len : ℕ

-- at most 32 bits count, and all other bits are 0
abbrev pub IsPrefix : ℕ → ℕ → Type 0
IsPrefix address len = (len ≤ 32) × (address % 2 ^ (32 - len) ≡ 0)
