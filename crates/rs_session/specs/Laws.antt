-- What is true of the definitions: each statement is the contract of a function that does nothing.
use Rattle.std.specs.Prelude.{◌≡◌, ℕ, ◌+◌, ◌≤◌, Bool, true, false, List, [], ◌∷◌, ◌++◌, length, Option, Some}
use Rattle.std.specs.List.{list_any}
use Rattle.rs_mrt.specs.Entry.{front_of}
use Rattle.rs_mrt.specs.Reader.{ReadEnd}
use Rattle.rs_mrt.specs.Record.{MrtRecord, records_of}
use Rattle.rs_mrt.specs.RecordReading.{MayCome, unread}
use Rattle.rs_mrt.specs.declared.fault.SourceFault.{SourceFault}
use Rattle.rs_mrt.specs.declared.fault.SourceFault.TheVariants as faults
use Rattle.rs_change.specs.Change.{Change, is_close}
use Rattle.rs_session.specs.Effect.{effect_of}
use Rattle.rs_session.specs.FileChanges.{changes_of, close_at, changes_in_by}
use Rattle.rs_session.specs.Given.{IsRead, has_end}
use Rattle.rs_session.specs.Stage.{Comes, Stage, May, fresh}
use Rattle.rs_update.specs.declared.errors.Errors.{Errors}
use Rattle.rs_types.specs.declared.peer_id.PeerId.{PeerId}
use Rattle.rs_change.specs.declared.word.Reason.{Reason}
use Rattle.rs_change.specs.declared.word.Reason.TheVariants as reasons

abbrev pub has_close : List Change → Bool
has_close changes = list_any is_close changes

-- a record can close a session for any reason except that memory was refused, or that records cannot be read
abbrev pub is_recorded : Reason → Bool
is_recorded reasons.Memory = false
is_recorded reasons.Read = false
is_recorded reason = true

-- a session may close for this reason, if its records end so; only after a failed read it may close because records
-- cannot be read
abbrev pub may_close : Option SourceFault → Reason → Bool
may_close (Some faults.Read) reasons.Read = true
may_close end reason = is_recorded reason

-- the changes are a list without a close, and then a close for a reason that is possible with this end
pub record ClosesLast (end : Option SourceFault) (changes : List Change) : Type 0 where
  pub before : List Change
  pub time : ℕ
  pub reason : Reason
  pub splits : changes ≡ before ++ close_at time reason ∷ []
  pub none_before : has_close before ≡ false
  pub recorded : may_close end reason ≡ true

-- whatever the records and their end are, a session has exactly one close, and the close is its last change
abbrev pub ClosesOnce : Type 0
ClosesOnce =
    (errors : Errors) (peer : PeerId) (records : List MrtRecord) (end : Option SourceFault)
    → ClosesLast end (changes_of errors peer records end)

-- a file gives at most one change more than it has octets
abbrev pub SaysNoMoreThanOctets : Type 0
SaysNoMoreThanOctets =
    (errors : Errors) (peer : PeerId) (file : List ℕ) → length (changes_in_by errors peer file) ≤ length file + 1

-- the first 4,121 octets of a record's body have the effect of the whole body
abbrev pub FrontSuffices : Type 0
FrontSuffices =
    (errors : Errors) (peer : PeerId) (r : MrtRecord) → effect_of errors peer (front_of r) ≡ effect_of errors peer r

-- some list of changes may still come, perhaps the empty one
abbrev pub SomethingMayCome : {S : Type 0} → Comes S → (S → Option MrtRecord) → Stage S → Type 0
SomethingMayCome comes shows stage = (changes : List Change) × (passed : ℕ) × May comes shows stage changes passed

-- Whatever may come from a session over a reader, from its first octet on, comes from a file that the reader may
-- give. Or it says that a read failed.
abbrev pub GivesFileOrFails : {R : Type 0} → (R → List ℕ → ReadEnd → Type 0) → R → Type 0
GivesFileOrFails gives reader =
    (errors : Errors) (peer : PeerId) (changes : List Change) (passed : ℕ)
    → May (MayCome gives) (λ r. r.shown) (fresh (unread reader) peer errors) changes passed
    → IsRead gives errors peer reader changes passed

-- the only close is the last change, and it says that a read failed
pub record ClosesByRead (changes : List Change) : Type 0 where
  pub before : List Change
  pub splits : changes ≡ before ++ close_at 0 reasons.Read ∷ []
  pub none_before : has_close before ≡ false

-- if no record ends the session, a failed read closes it
abbrev pub FailedReadCloses : Type 0
FailedReadCloses =
    (errors : Errors) (peer : PeerId) (octets : List ℕ) → has_end errors peer octets ≡ false
    → ClosesByRead (changes_of errors peer (records_of octets) (Some faults.Read))
