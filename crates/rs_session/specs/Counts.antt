-- Counting records in 64 bits (our choice).
use Rattle.std.specs.Prelude.{ℕ, ◌+◌, ◌^◌, ◌<◌, Bool, true, false}

abbrev pub held_count : Bool → ℕ
held_count true = 1
held_count false = 0

-- Each record that was counted took at least one octet, and so did the record at hand, if there is one. So their
-- number and that of the octets to come fit in 64 bits.
abbrev pub CountFits : ℕ → Bool → ℕ → Type 0
CountFits counted held room = 0 < counted + held_count held → counted + held_count held + room < 2 ^ 64
