-- How much of a recorded file is read, by a time and by a record that is cut short (our choice). The rule is about
-- the records that a file holds (RFC 6396, section 2).
use Rattle.std.specs.Prelude.{ℕ, nat_le, nat_lt, Bool, true, false, not, ◌&&◌, ◌||◌, if◌then◌else◌, List, [], length}
use Rattle.std.specs.Prelude.{take_while, Option, Some, None}
use Rattle.std.specs.List.{list_any}
use Rattle.rs_mrt.specs.declared.bounds.Bounds.{Bounds}
use Rattle.rs_mrt.specs.declared.bounds.Tail.{Tail}
use Rattle.rs_mrt.specs.declared.bounds.Tail.TheVariants.{Strict, Lenient}
use Rattle.rs_mrt.specs.declared.fault.MrtFault.{MrtFault}
use Rattle.rs_mrt.specs.Record.{MrtRecord, header_len, headed, records_of, rest_of, end_of}

-- ---- the time

-- a Timestamp is later than a time if its seconds are; microseconds do not count
abbrev pub is_time_later : Option ℕ → ℕ → Bool
is_time_later None timestamp = false
is_time_later (Some time) timestamp = nat_lt time timestamp

-- a record is later than the time
abbrev pub is_later : Option ℕ → MrtRecord → Bool
is_later until r = is_time_later until r.time

-- a record is not later than the time
abbrev pub is_in_time : Option ℕ → MrtRecord → Bool
is_in_time until r = not (is_later until r)

-- the records of a file before the first record that is later than the time
abbrev pub records_until : Option ℕ → List ℕ → List MrtRecord
records_until until file = take_while (is_in_time until) (records_of file)

-- a record that the end of a file cuts short is later if its header is whole and has a later Timestamp
abbrev pub rest_is_later : Option ℕ → List ℕ → Bool
rest_is_later until rest = nat_le header_len (length rest) && is_later until (headed rest [])

-- the file has a later record, whole or cut short
abbrev pub has_later : Option ℕ → List ℕ → Bool
has_later until file = list_any (is_later until) (records_of file) || rest_is_later until (rest_of file)

-- ---- the end

-- the tail is strict, so that a record that is cut short is a fault
abbrev pub is_tail_strict : Tail → Bool
is_tail_strict Strict = true
is_tail_strict Lenient = false

-- the fault at the end of what is read: the file's own if no record is later and the tail is strict, or else none
abbrev pub end_within : Bounds → List ℕ → Option MrtFault
end_within bounds file = if has_later bounds.until file || not (is_tail_strict bounds.tail) then None else end_of file
