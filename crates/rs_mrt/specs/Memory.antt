-- A writer over memory, and when it fails. Nothing here is from a standard: all of it is our choice.
use Rattle.std.specs.Prelude.{ℕ, zero, suc, ◌+◌, ◌-◌, min, List, [], ◌++◌, length, take, Option, Some, None, Result}
use Rattle.std.specs.Prelude.{Ok, Err}
use Rattle.rs_mrt.specs.declared.memory.Limits.{Limits}
use Rattle.rs_mrt.specs.declared.stream.Failed.{Failed}
use Rattle.rs_mrt.specs.Stream.{failed_calls}

-- how many calls succeed before the one that fails, how many octets are taken in all, and how many in one call
pub record WriteLimits : Type 0 where
  pub before_failure : Option ℕ
  pub room : ℕ
  pub piece : ℕ

abbrev pub limits_of : Limits → WriteLimits
limits_of limits = record { before_failure = limits.calls_before_failure; room = limits.room; piece = limits.piece }

-- the octets that were taken, how many calls have failed, and the limits from now on
pub record InMemory : Type 0 where
  pub taken : List ℕ
  pub failures : ℕ
  pub limits : WriteLimits

-- nothing was taken
abbrev pub begun : WriteLimits → InMemory
begun limits = record { taken = []; failures = 0; limits = limits }

-- a call fails if there is no room left for a piece that is not empty
abbrev pub amount_left : ℕ → ℕ → ℕ → Option ℕ
amount_left zero most (suc len) = None
amount_left zero most zero = Some 0
amount_left (suc left) most len = Some (min (min len most) (suc left))

-- how many octets of a piece of this length are taken if there is so much room; None if the call fails
abbrev pub amount_at : Option ℕ → ℕ → ℕ → ℕ → Option ℕ
amount_at (Some zero) left most len = None
amount_at (Some (suc calls)) left most len = amount_left left most len
amount_at None left most len = amount_left left most len

-- how many octets of a piece of this length are taken after so many octets
abbrev pub amount_within : WriteLimits → ℕ → ℕ → Option ℕ
amount_within limits taken len = amount_at limits.before_failure (limits.room - taken) limits.piece len

abbrev pub amount_of : InMemory → ℕ → Option ℕ
amount_of writer len = amount_within writer.limits (length writer.taken) len

-- one call fewer before the failing one
abbrev pub fewer : Option ℕ → Option ℕ
fewer (Some (suc calls)) = Some calls
fewer (Some zero) = None
fewer None = None

-- the limits after a call
abbrev pub after_call : WriteLimits → WriteLimits
after_call limits = record { before_failure = fewer limits.before_failure; room = limits.room; piece = limits.piece }

-- the octets after a call with this answer
abbrev pub appended : List ℕ → List ℕ → Result ℕ Failed → List ℕ
appended taken piece (Ok n) = taken ++ take n piece
appended taken piece (Err failed) = taken

-- the writer after a call with this answer
abbrev pub after_write : InMemory → List ℕ → Result ℕ Failed → InMemory
after_write writer piece answer =
    record {
      taken = appended writer.taken piece answer;
      failures = writer.failures + failed_calls answer piece;
      limits = after_call writer.limits;
    }
