-- One step of a worker: the next change of its session.
use Rattle.std.specs.Prelude.{◌≡◌, ℕ, ◌+◌, ◌≤◌, true, false, List, [], ◌∷◌, length, Option, Some, None}
use Rattle.rs_mrt.specs.Record.{MrtRecord}
use Rattle.rs_session.specs.Change.{Change, change_of, closing_word}
use Rattle.rs_session.specs.Stage.{Comes, Stage, May, KeepsBehind, most_changes}
use Rattle.rs_change.specs.declared.word.Body.{Body}
use Rattle.rs_change.specs.declared.word.Body.TheVariants.{Announce, Withdraw, Down, Close}
use Rattle.rs_change.specs.declared.word.Reason.{Reason}
use Rattle.rs_change.specs.declared.word.Reason.TheVariants as reasons
use Rattle.rs_change.specs.declared.word.Word.{Word}
use Rattle.rs_worker.specs.Worked.{is_memory}

-- the reason for which a change closes its session, if it is a close
abbrev pub reason_of : Body → Option Reason
reason_of (Close reason) = Some reason
reason_of (Announce prefix attributes) = None
reason_of (Withdraw prefix) = None
reason_of Down = None

-- the session is not over, but no change is given
pub record IsUnfinished {S : Type 0} (comes : Comes S) (shows : S → Option MrtRecord) (old : Stage S)
    (passed : ℕ) : Type 0 where
  pub rest : List Change
  pub total : ℕ
  pub may_come : May comes shows old rest total
  pub some_rest : 1 ≤ length rest
  pub passed_within : passed ≤ total

-- the session is open, and its next change is not a close
pub record GoesOn {S : Type 0} (comes : Comes S) (shows : S → Option MrtRecord) (room : S → ℕ) (old new : Stage S)
    (word : Word) : Type 0 where
  pub keeps : KeepsBehind comes shows (change_of word) old new
  pub unclosed : new.closed ≡ false
  pub fewer : most_changes room shows new + 1 ≤ most_changes room shows old

-- the session ends with a close, or memory is refused and the close says so
pub record Ends {S : Type 0} (comes : Comes S) (shows : S → Option MrtRecord) (old new : Stage S) (word : Word)
    (reason : Reason) : Type 0 where
  pub last : is_memory reason ≡ false → May comes shows old (change_of word ∷ []) new.passed
  pub refused : is_memory reason ≡ true
      → (word ≡ closing_word 0 reasons.Memory) × IsUnfinished comes shows old new.passed

-- the next change of a session
abbrev pub Takes : {S : Type 0} → Comes S → (S → Option MrtRecord) → (S → ℕ) → Stage S → Stage S → Word
    → Option Reason → Type 0
Takes comes shows room old new word None = GoesOn comes shows room old new word
Takes comes shows room old new word (Some reason) = Ends comes shows old new word reason
