-- How a reader of records takes octets from its reader, step by step. Only the header and the body of a record are
-- from a standard here (RFC 6396, section 2).
use Rattle.std.specs.Prelude.{◌≡◌, ◌≢◌, ◌⊎◌, ℕ, zero, suc, ◌+◌, ◌-◌, ◌^◌, ◌<◌, ◌≤◌, Bool, true, false, List, [], ◌++◌}
use Rattle.std.specs.Prelude.{length, take, drop, Option, Some, None, Result, Ok, Err, IfOk, OnErr}
use Rattle.rs_mrt.specs.declared.fault.MrtFault.{MrtFault}
use Rattle.rs_mrt.specs.declared.fault.SourceFault.{SourceFault}
use Rattle.rs_mrt.specs.declared.fault.SourceFault.TheVariants.{Mrt, Read}
use Rattle.rs_mrt.specs.declared.stream.Failed.{Failed}
use Rattle.rs_mrt.specs.Reader.{ReadEnd, FileEnds, ReadFails}
use Rattle.rs_mrt.specs.Record.{MrtRecord, header_len, headed, has_record, front_record, after_record, fault_of_rest}
use Rattle.rs_mrt.specs.Bounds.{is_later, rest_is_later}
use Rattle.rs_mrt.specs.Entry.{front_len, front_of}
use Rattle.rs_mrt.specs.RecordReading.{Inflow, MayArrive, RecordReading, read_limit}

-- ---- octets

-- These octets came between two states of a reader. They, and then what may arrive in the new state, may arrive in
-- the old state. Or these octets are all that may arrive, and the octets end.
abbrev pub Behind : (List ℕ → ReadEnd → Type 0) → (List ℕ → ReadEnd → Type 0) → List ℕ → Result Bool Failed → Type 0
Behind old new piece (Ok true) = (later : List ℕ) (end : ReadEnd) → new later end → old (piece ++ later) end
Behind old new piece (Ok false) = old piece FileEnds
Behind old new piece (Err failed) = old piece ReadFails

-- a failed call is counted; a call that is not made because the limit is reached is not
abbrev pub CountsCall : ℕ → ℕ → ℕ → Result Bool Failed → Type 0
CountsCall before after came (Ok more) = after ≡ before
CountsCall before after came (Err failed) = (after ≡ before + 1) ⊎ ((after ≡ before) × (came ≡ read_limit))

-- whether a call gave octets
abbrev pub gave_some : Result ℕ Failed → Result Bool Failed
gave_some (Ok zero) = Ok false
gave_some (Ok (suc n)) = Ok true
gave_some (Err failed) = Err failed

-- the octets that a call put into the beginning of the piece
abbrev pub given_of : Result ℕ Failed → List ℕ → List ℕ
given_of (Ok n) piece = take n piece
given_of (Err failed) piece = []

-- there are as many octets as wanted, or the octets ended before that
abbrev pub IsEnough : ℕ → ℕ → Result Bool Failed → Type 0
IsEnough wanted len (Ok true) = wanted ≤ len
IsEnough wanted len (Ok false) = len < wanted
IsEnough wanted len (Err failed) = len < wanted

-- a length grew exactly if octets came
abbrev pub Grows : ℕ → ℕ → Result Bool Failed → Type 0
Grows before after (Ok true) = before < after
Grows before after (Ok false) = after ≡ before
Grows before after (Err failed) = after ≡ before

-- ---- records

-- the record whose header the octets begin with, with so many octets of its body
abbrev pub shown_in : Option ℕ → List ℕ → Option MrtRecord
shown_in None octets = None
shown_in (Some n) octets = Some (headed octets (take n (drop header_len octets)))

-- how many octets the record that is shown takes
abbrev pub shown_len : Option ℕ → ℕ
shown_len None = 0
shown_len (Some n) = header_len + n

-- the octets behind the record that is shown
abbrev pub held_behind : Option ℕ → List ℕ → List ℕ
held_behind shown octets = drop (shown_len shown) octets

-- the answer at the end of the octets, if these octets are the rest
abbrev pub answer_at : Option MrtFault → Result Bool SourceFault
answer_at None = Ok false
answer_at (Some fault) = Err (Mrt fault)

abbrev pub answer_behind : ReadEnd → List ℕ → Result Bool SourceFault
answer_behind FileEnds rest = answer_at (fault_of_rest rest)
answer_behind ReadFails rest = Err Read

-- the answer of a call at the end of the octets
abbrev pub call_at : ReadEnd → Failed → Result Bool Failed
call_at FileEnds failed = Ok false
call_at ReadFails failed = Err failed

-- What is always true of a reader of records. The record that is shown stands in the window. A call of its reader
-- can be counted as long as records are asked for. After the last answer no record is shown, and that answer was not
-- a record.
pub record ReaderFits (shown : Option ℕ) (window : List ℕ) (stopped : Option (Result Bool SourceFault))
    (came failures : ℕ) : Type 0 where
  pub stands : shown_len shown ≤ length window
  pub room : length window ≤ header_len + front_len
  pub within : came ≤ read_limit
  pub counts : stopped ≡ None → failures < 2 ^ 64 - 1
  pub quiet : (last : Result Bool SourceFault) → stopped ≡ Some last → (shown ≡ None) × (last ≢ Ok true)

-- ---- steps of one reader: the octets that it may still give, and how many of its calls failed

module _ {R : Type 0} (gives : R → List ℕ → ReadEnd → Type 0) (failures : R → ℕ) where
  -- this piece came between the two states
  pub record Draws (old new : Inflow R) (piece : List ℕ) (result : Result Bool Failed) : Type 0 where
    pub behind : Behind (MayArrive gives old) (MayArrive gives new) piece result
    pub came : new.came ≡ old.came + length piece
    pub within : new.came ≤ read_limit
    pub counts : CountsCall (failures old.reader) (failures new.reader) new.came result
    -- at the limit the reader is not called
    pub at_limit : old.came ≡ read_limit → new.reader ≡ old.reader

  -- the octets that came stand behind those that were there before
  pub record Fills (old new : Inflow R) (before after : List ℕ) (result : Result Bool Failed) : Type 0 where
    pub piece : List ℕ
    pub filled : after ≡ before ++ piece
    pub drawn : Draws old new piece result

  -- a call gave at most so many octets, which were dropped
  pub record Forgets (old new : Inflow R) (most : ℕ) (result : Result ℕ Failed) : Type 0 where
    pub piece : List ℕ
    pub drawn : Draws old new piece (gave_some result)
    pub fits : length piece ≤ most
    pub counted : IfOk result (λ n. length piece ≡ n)
    pub empty : OnErr result (length piece ≡ 0)

  -- so many octets came and were dropped; at the end there may be fewer
  pub record Skips (old new : Inflow R) (wanted : ℕ) (result : Result Bool Failed) : Type 0 where
    pub piece : List ℕ
    pub drawn : Draws old new piece result
    pub most : length piece ≤ wanted
    pub enough : IsEnough wanted (length piece) result

  -- a whole record came that isn't later: its front is shown, and the octets that came behind it are kept
  pub record FindsRecord (until : Option ℕ) (old new : Inflow R) (before : List ℕ) (shown : Option MrtRecord)
      (held : List ℕ) : Type 0 where
    pub piece : List ℕ
    pub drawn : Draws old new piece (Ok true)
    pub stands : has_record (before ++ piece) ≡ true
    pub in_time : is_later until (front_record (before ++ piece)) ≡ false
    pub front : shown ≡ Some (front_of (front_record (before ++ piece)))
    pub behind : held ≡ after_record (before ++ piece)

  -- No whole record comes, nor the header of a later one. The last octets that came may be passed over, if a whole
  -- header is at hand.
  pub record FindsNone (until : Option ℕ) (old new : Inflow R) (before after : List ℕ)
      (answer : Result Bool SourceFault) : Type 0 where
    pub piece : List ℕ
    pub end : ReadEnd
    pub failed : Failed
    pub drawn : Draws old new piece (call_at end failed)
    pub lacks : has_record (before ++ piece) ≡ false
    pub in_time : rest_is_later until (before ++ piece) ≡ false
    pub says : answer ≡ answer_behind end (before ++ piece)
    pub gone : List ℕ
    pub whole : after ++ gone ≡ before ++ piece
    pub kept : (gone ≡ []) ⊎ (header_len ≤ length after)
    pub fewer : length after ≤ length before + length piece

  -- the header of a later record came; more octets may arrive behind it
  pub record FindsLater (until : Option ℕ) (old new : Inflow R) (before after : List ℕ) : Type 0 where
    pub piece : List ℕ
    pub drawn : Draws old new piece (Ok true)
    pub later : rest_is_later until (before ++ piece) ≡ true
    pub fewer : length after ≤ length before + length piece

  -- the records end: no more octets come, or the header of a later record came
  abbrev pub FindsEnd : Option ℕ → Inflow R → Inflow R → List ℕ → List ℕ → Type 0
  FindsEnd until old new before after =
      FindsNone until old new before after (Ok false) ⊎ FindsLater until old new before after

  -- the next record is found in a window, or there is none
  abbrev pub Finds : Option ℕ → Inflow R → Inflow R → List ℕ → List ℕ → Result (Option ℕ) SourceFault → Type 0
  Finds until old new before after (Ok (Some n)) =
      FindsRecord until old new before (shown_in (Some n) after) (held_behind (Some n) after)
      × (shown_len (Some n) ≤ length after)
  Finds until old new before after (Ok None) = FindsEnd until old new before after
  Finds until old new before after (Err fault) = FindsNone until old new before after (Err fault)

  -- the next record is found, or there is none and the reader of records gives its last answer
  abbrev pub GoesOn : RecordReading R → RecordReading R → Result Bool SourceFault → Type 0
  GoesOn old new (Ok true) =
      FindsRecord old.until old.inflow new.inflow old.held new.shown new.held × (new.stopped ≡ None)
      × (new.until ≡ old.until)
  GoesOn old new (Ok false) =
      FindsEnd old.until old.inflow new.inflow old.held new.held × (new.shown ≡ None)
      × (new.stopped ≡ Some (Ok false))
  GoesOn old new (Err fault) =
      FindsNone old.until old.inflow new.inflow old.held new.held (Err fault) × (new.shown ≡ None)
      × (new.stopped ≡ Some (Err fault))
