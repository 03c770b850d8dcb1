-- What a writer has taken, and when a call on it has failed. Nothing here is from a standard: all of it is our
-- choice.
use Rattle.std.specs.Prelude.{◌≤◌, ℕ, zero, suc, List, [], ◌∷◌, length, take, Option, Result, Ok, Err}
use Rattle.std.specs.Io.KnownBytes.{Appends}
use Rattle.rs_mrt.specs.declared.stream.Failed.{Failed}

-- The number of failed calls in one call to write: 1 if the call answers an error, or takes nothing of a piece that
-- isn't empty; else 0.
abbrev pub failed_calls : Result ℕ Failed → List ℕ → ℕ
failed_calls (Err failed) piece = 1
failed_calls (Ok zero) (octet ∷ octets) = 1
failed_calls (Ok zero) [] = 0
failed_calls (Ok (suc n)) piece = 0

-- A beginning of the piece was added to what the writer has taken.
abbrev pub AppendsBeginning : Option (List ℕ) → Option (List ℕ) → List ℕ → Type 0
AppendsBeginning old new piece = (n : ℕ) × (n ≤ length piece) × Appends old new (take n piece)
