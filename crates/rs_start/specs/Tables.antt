-- Which of the tables of a file is read. Nothing here is from a standard: all of it is our choice.
use Rattle.std.specs.Prelude.{◌≡◌, ℕ, ◌-◌, ◌<◌, ◌≤◌, ◌==◌, ◌||◌, Bool, true, List, length, take, slice_index, Option, Some, None}
use Rattle.std.specs.Prelude.{if◌then◌else◌}
use Rattle.rs_mrt.specs.Reader.{ReadEnd, FileEnds}
use Rattle.rs_mrt.specs.Record.{end_of, records_of}
use Rattle.rs_start.specs.TableFile.{table_times}
use Rattle.rs_start.specs.TableReading.{Came, TableReading}

-- A file begins with whole records, and these are the times of the tables that begin among them. If the last table
-- is whole, the file ends behind them.
pub record ReadsTables {R : Type 0} (gives : R → List ℕ → ReadEnd → Type 0) (old : TableReading R) (times : List ℕ)
    (whole : Bool) : Type 0 where
  pub octets : List ℕ
  pub last : TableReading R
  pub came : Came (gives old.reader) (gives last.reader) octets
  pub whole_records : end_of octets ≡ None
  pub times_are : times ≡ table_times (records_of octets)
  pub ends : whole ≡ true → gives old.reader octets FileEnds

-- The times of the tables that can be taken: all of them, but not the last if it is cut short. If there is only one
-- table, it is taken anyway, and is then at fault if it is cut short.
abbrev pub times_to_take : List ℕ → Bool → List ℕ
times_to_take times whole = if whole || length times == 1 then times else take (length times - 1) times

-- the place of the last time that is not later than another one; None if all are later
abbrev pub IsLastUntil : List ℕ → ℕ → Option ℕ → Type 0
IsLastUntil times until (Some place) =
    (place < length times) × (slice_index times place ≤ until)
    × ((behind : ℕ) → place < behind → behind < length times → until < slice_index times behind)
IsLastUntil times until None = (place : ℕ) → place < length times → until < slice_index times place
