-- A reader over memory, and when it fails. Nothing here is from a standard: all of it is our choice.
use Rattle.std.specs.Prelude.{◌≡◌, ℕ, zero, suc, ◌-◌, ◌+◌, min, nat_le, if◌then◌else◌, List, [], length, take, drop}
use Rattle.std.specs.Prelude.{Option, Some, None, Result, Ok, Err, refl}
use Rattle.rs_mrt.specs.declared.stream.Failed.{Failed}
use Rattle.rs_mrt.specs.Memory.{fewer}
use Rattle.rs_mrt.specs.Reader.{ReadEnd, FileEnds, ReadFails, SomethingIsGiven, failed_reads}

-- A reader over memory: the octets that are left, how many calls succeed before one fails, and after how many octets
-- a call fails. It also has how many octets one call gives at most, and how many calls have failed.
pub record MemoryReading : Type 0 where
  pub left : List ℕ
  pub calls : Option ℕ
  pub before_failure : Option ℕ
  pub most : ℕ
  pub failures : ℕ

-- the octets that come, unless a call fails because of its number
abbrev pub coming : List ℕ → Option ℕ → List ℕ
coming left None = left
coming left (Some n) = take n left

-- the end of the octets: a call fails there only if so many octets come
abbrev pub ending : List ℕ → Option ℕ → ReadEnd
ending left None = FileEnds
ending left (Some n) = if nat_le n (length left) then ReadFails else FileEnds

-- These octets come, and then this end. If a call fails because of its number, a beginning of the octets may come,
-- and then the failed read.
abbrev pub ComesBefore : Option ℕ → List ℕ → ReadEnd → List ℕ → ReadEnd → Type 0
ComesBefore None coming ending octets end = (octets ≡ coming) × (end ≡ ending)
ComesBefore (Some calls) coming ending octets FileEnds = (octets ≡ coming) × (FileEnds ≡ ending)
ComesBefore (Some calls) coming ending octets ReadFails = (n : ℕ) × (octets ≡ take n coming)

abbrev pub Comes : MemoryReading → List ℕ → ReadEnd → Type 0
Comes reader =
    ComesBefore reader.calls (coming reader.left reader.before_failure) (ending reader.left reader.before_failure)

-- there is always something that may come
comes_before : (calls : Option ℕ) (coming : List ℕ) (ending : ReadEnd)
    → SomethingIsGiven (ComesBefore calls coming ending)
comes_before None coming ending = (coming, ending, (refl, refl))
comes_before (Some calls) coming ending = ([], ReadFails, (0, refl))

pub something_comes : (reader : MemoryReading) → SomethingIsGiven (Comes reader)
something_comes reader =
    comes_before reader.calls (coming reader.left reader.before_failure) (ending reader.left reader.before_failure)

-- how many octets a call gives if there is so much room; None if the call fails
abbrev pub amount_within : Option ℕ → ℕ → Option ℕ
amount_within None n = Some n
amount_within (Some zero) n = None
amount_within (Some (suc before)) n = Some (min n (suc before))

-- how many octets a call gives that may also fail because of its number
abbrev pub amount_at : Option ℕ → Option ℕ → ℕ → Option ℕ
amount_at None before n = amount_within before n
amount_at (Some zero) before n = None
amount_at (Some (suc calls)) before n = amount_within before n

-- how many octets a call puts into a piece of this length
abbrev pub amount_given : MemoryReading → ℕ → Option ℕ
amount_given reader len = amount_at reader.calls reader.before_failure (min (min len (length reader.left)) reader.most)

-- so many octets fewer are left before the call that fails because of its octets
abbrev pub sooner : Option ℕ → ℕ → Option ℕ
sooner None n = None
sooner (Some before) n = Some (before - n)

-- After a call that failed because of its octets, none fails for that reason again. A call that fails because of its
-- number leaves the octets before the other failure as they are.
abbrev pub once_failed : Option ℕ → Option ℕ → Option ℕ
once_failed (Some zero) before = before
once_failed (Some (suc calls)) before = None
once_failed None before = None

-- after how many octets a call fails, once a call has given this answer
abbrev pub before_next : Option ℕ → Option ℕ → Result ℕ Failed → Option ℕ
before_next calls before (Ok n) = sooner before n
before_next calls before (Err failed) = once_failed calls before

abbrev pub taken_off : List ℕ → Result ℕ Failed → List ℕ
taken_off left (Ok n) = drop n left
taken_off left (Err failed) = left

-- the reader after a call with this answer
abbrev pub after_read : MemoryReading → Result ℕ Failed → MemoryReading
after_read reader answer =
    record {
      left = taken_off reader.left answer;
      calls = fewer reader.calls;
      before_failure = before_next reader.calls reader.before_failure answer;
      most = reader.most;
      failures = reader.failures + failed_reads answer;
    }
