-- The reading of a session, over any source of records. Nothing here is from a standard: all of it is our choice.
use Rattle.std.specs.Prelude.{◌≡◌, ◌↔◌, ℕ, ◌+◌, ◌≤◌, Bool, true, false, List, [], ◌∷◌, ◌++◌, length, Option, Some}
use Rattle.std.specs.Prelude.{None, Result, Ok, Err, if◌then◌else◌}
use Rattle.std.specs.Option.{option_to_list}
use Rattle.std.specs.declared.alloc.AllocError.{AllocError}
use Rattle.rs_mrt.specs.Record.{MrtRecord}
use Rattle.rs_mrt.specs.declared.fault.SourceFault.{SourceFault}
use Rattle.rs_mrt.specs.declared.fault.SourceFault.TheVariants as faults
use Rattle.rs_change.specs.Change.{Change, change_of, is_close, is_read_failure}
use Rattle.rs_session.specs.FileChanges.{changes_of, passed_of}
use Rattle.rs_update.specs.declared.errors.Errors.{Errors}
use Rattle.rs_types.specs.declared.peer_id.PeerId.{PeerId}
use Rattle.rs_change.specs.declared.word.Word.{Word}

-- the lists of records that may still come from a source, and how they end
abbrev pub Comes : Type 0 → Type 1
Comes S = S → List MrtRecord → Option SourceFault → Type 0

-- The state in which the reading of a session is. `waiting` are changes of the last record that were not given yet.
-- `held` says whether the record that the source shows is still to be read, and `closed` whether the close was
-- given. `passed` is the number of records passed over before the change given last, and `skipped` the number after
-- it.
pub record Stage (S : Type 0) : Type 0 where
  pub source : S
  pub peer : PeerId
  pub errors : Errors
  pub waiting : List Change
  pub held : Bool
  pub closed : Bool
  pub passed : ℕ
  pub skipped : ℕ

-- nothing was read yet
abbrev pub fresh : {S : Type 0} → S → PeerId → Errors → Stage S
fresh source peer errors =
    record {
      source = source;
      peer = peer;
      errors = errors;
      waiting = [];
      held = false;
      closed = false;
      passed = 0;
      skipped = 0;
    }

-- ---- the records and changes that may still come

-- the records that are still to be read: the one at hand, if there is one, and those that come later
abbrev pub to_read : Bool → Option MrtRecord → List MrtRecord → List MrtRecord
to_read held shown later = (if held then option_to_list shown else []) ++ later

-- these records may still be read, and then this end
pub record MayRead {S : Type 0} (comes : Comes S) (shows : S → Option MrtRecord) (stage : Stage S)
    (records : List MrtRecord) (end : Option SourceFault) : Type 0 where
  pub later : List MrtRecord
  pub come : comes stage.source later end
  pub read : records ≡ to_read stage.held (shows stage.source) later

-- the changes that are still to be given, if these are the records to be read
abbrev pub changes_left : {S : Type 0} → Stage S → List MrtRecord → Option SourceFault → List Change
changes_left stage records end =
    if stage.closed then [] else stage.waiting ++ changes_of stage.errors stage.peer records end

-- how many records are passed over in the end, if these are the records to be read
abbrev pub passed_in_the_end : {S : Type 0} → Stage S → List MrtRecord → ℕ
passed_in_the_end stage records =
    if stage.closed then stage.passed else stage.passed + stage.skipped + passed_of stage.errors stage.peer records

-- these changes may still come, and so many records are passed over in the end
pub record May {S : Type 0} (comes : Comes S) (shows : S → Option MrtRecord) (stage : Stage S)
    (changes : List Change) (passed : ℕ) : Type 0 where
  pub records : List MrtRecord
  pub end : Option SourceFault
  pub may_read : MayRead comes shows stage records end
  pub left : changes ≡ changes_left stage records end
  pub counted : passed ≡ passed_in_the_end stage records

-- whatever may come in the new state may come in the old state
abbrev pub Keeps : {S : Type 0} → Comes S → (S → Option MrtRecord) → Stage S → Stage S → Type 0
Keeps comes shows old new =
    (changes : List Change) (passed : ℕ) → May comes shows new changes passed → May comes shows old changes passed

-- this change, and then whatever may come in the new state, may come in the old state
abbrev pub KeepsBehind : {S : Type 0} → Comes S → (S → Option MrtRecord) → Change → Stage S → Stage S → Type 0
KeepsBehind comes shows first old new =
    (changes : List Change) (passed : ℕ) → May comes shows new changes passed
    → May comes shows old (first ∷ changes) passed

-- no change may come, and no more records are passed over
abbrev pub IsOver : {S : Type 0} → Comes S → (S → Option MrtRecord) → Stage S → Type 0
IsOver comes shows stage =
    (changes : List Change) (passed : ℕ) → May comes shows stage changes passed
    → (changes ≡ []) × (passed ≡ stage.passed)

-- only these changes may still come, and exactly so many records are passed over in the end
abbrev pub SaysJust : {S : Type 0} → Comes S → (S → Option MrtRecord) → Stage S → List Change → ℕ → Type 0
SaysJust comes shows stage whole total =
    (changes : List Change) (passed : ℕ) → May comes shows stage changes passed ↔ ((changes ≡ whole) × (passed ≡ total))

-- ---- the answers to `next_word`

-- If a change is given, it was to come before the changes that may come now. After a close no change may come. None
-- says that no change may come, and nothing changes. If memory is refused, the same changes may come as before, and
-- no record is counted as passed over.
abbrev pub Says : {S : Type 0} → Comes S → (S → Option MrtRecord) → Stage S → Stage S
    → Result (Option Word) AllocError → Type 0
Says comes shows old new (Ok (Some word)) =
    KeepsBehind comes shows (change_of word) old new × (is_close (change_of word) ≡ true → IsOver comes shows new)
Says comes shows old new (Ok None) = IsOver comes shows old × (new ≡ old)
Says comes shows old new (Err refused) = Keeps comes shows old new × (new.passed ≡ old.passed)

-- An open session gives a change or answers that memory was refused. Only a close closes it. A closed session
-- answers None and stays closed.
abbrev pub Closes : Bool → Bool → Result (Option Word) AllocError → Type 0
Closes before after (Ok (Some word)) = (before ≡ false) × (after ≡ is_close (change_of word))
Closes before after (Ok None) = (before ≡ true) × (after ≡ true)
Closes before after (Err refused) = (before ≡ false) × (after ≡ false)

-- how many octets the body of the record at hand has
abbrev pub held_octets : Bool → Option MrtRecord → ℕ
held_octets false shown = 0
held_octets true None = 0
held_octets true (Some r) = length r.body

-- The most changes that may come before the close: those that wait, and one for each octet of the records to be
-- read.
abbrev pub most_changes : {S : Type 0} → (S → ℕ) → (S → Option MrtRecord) → Stage S → ℕ
most_changes room shows stage = length stage.waiting + held_octets stage.held (shows stage.source) + room stage.source

-- a change that is not the close makes the number to come smaller by at least one
abbrev pub Fewer : ℕ → ℕ → Result (Option Word) AllocError → Type 0
Fewer before after (Ok (Some word)) = after + (if is_close (change_of word) then 0 else 1) ≤ before
Fewer before after (Ok None) = after ≤ before
Fewer before after (Err refused) = after ≤ before

-- the last answer of the source, after an answer of the session: a failed read, after a close that says so
abbrev pub answer_behind : Result (Option Word) AllocError → Result Bool SourceFault
answer_behind (Ok (Some word)) = if is_read_failure word.body then Err faults.Read else Ok true
answer_behind (Ok None) = Ok true
answer_behind (Err refused) = Ok true

-- a source that could go on can still go on, as long as the session gave no close
abbrev pub GoesOn : Option (Result Bool SourceFault) → Option (Result Bool SourceFault)
    → Result (Option Word) AllocError → Type 0
GoesOn before after (Ok (Some word)) =
    is_close (change_of word) ≡ false → (last : Result Bool SourceFault) → after ≡ Some last → before ≡ Some last
GoesOn before after (Ok None) = (last : Result Bool SourceFault) → after ≡ Some last → before ≡ Some last
GoesOn before after (Err refused) = (last : Result Bool SourceFault) → after ≡ Some last → before ≡ Some last
