-- The buffer in which records are spelled before they are written. Its memory is taken once and for all (our
-- choice).
use Rattle.std.specs.Prelude.{◌≡◌, ℕ, ◌+◌, ◌≤◌, List, ◌++◌, length, vec_len, vec_capacity}
use Rattle.std.specs.Global.{Vec}

-- the buffer has room for so many more octets
abbrev pub HasRoom : Vec ℕ → ℕ → Type 0
HasRoom buffer count = vec_len buffer + count ≤ vec_capacity buffer

-- these octets were appended, and no room was lost
pub record Gains (old new : Vec ℕ) (octets : List ℕ) : Type 0 where
  pub items : new.items ≡ old.items ++ octets
  pub len : vec_len new ≡ vec_len old + length octets
  pub capacity : vec_capacity old ≤ vec_capacity new
