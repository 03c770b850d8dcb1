-- The changes that a worker sends of a session, and what it answers about them.
use Rattle.std.specs.Prelude.{◌≡◌, ℕ, ◌≤◌, Bool, true, false, List, [], ◌∷◌, ◌++◌, length, map, IfSome}
use Rattle.rs_ring.specs.Ends.{Ring, Sent}
use Rattle.rs_ring.specs.Items.{has_close}
use Rattle.rs_session.specs.Change.{Change, change_of, closing_word, is_close}
use Rattle.rs_session.specs.FileChanges.{close_at}
use Rattle.rs_change.specs.declared.word.Reason.{Reason}
use Rattle.rs_change.specs.declared.word.Reason.TheVariants as reasons
use Rattle.rs_change.specs.declared.word.Word.{Word}
use Rattle.rs_worker.specs.declared.work.WorkerEnd.{WorkerEnd}

-- a session may give these changes, of which the last is the close, and pass over so many records
abbrev pub MayGive : Type 1
MayGive = List Change → ℕ → Type 0

-- a session that gives exactly these changes, and passes over exactly so many records
abbrev pub just : List Change → ℕ → MayGive
just whole total = λ changes passed. (changes ≡ whole) × (passed ≡ total)

-- whether memory was refused to the reader of a session
abbrev pub is_memory : Reason → Bool
is_memory reasons.Memory = true
is_memory other = false

-- whether one of the changes sent closes the session
abbrev pub closes_any : List Word → Bool
closes_any sent = has_close (λ one. is_close (change_of one)) sent

-- the changes are the first that the session may give, without its close, and then a close that says that memory was
-- refused
pub record IsCutShort (may : MayGive) (changes : List Change) (passed : ℕ) : Type 0 where
  pub given : List Change
  pub rest : List Change
  pub total : ℕ
  pub may_come : may (given ++ rest) total
  pub unfinished : 1 ≤ length rest
  pub splits : changes ≡ given ++ close_at 0 reasons.Memory ∷ []
  pub passed_within : passed ≤ total

-- The changes sent: some without a close, and then the close for this reason. They are all that the session may
-- give, or the first of it.
pub record HasSent (may : MayGive) (sent : List Word) (reason : Reason) (passed : ℕ) : Type 0 where
  pub before : List Word
  pub time : ℕ
  pub splits : sent ≡ before ++ closing_word time reason ∷ []
  pub unclosed : closes_any before ≡ false
  pub whole : is_memory reason ≡ false → may (map change_of sent) passed
  pub cut_short : is_memory reason ≡ true → IsCutShort may (map change_of sent) passed

-- What a worker answers: how many changes it sent, why the last one closes, and perhaps a token that shows the
-- changes to the receiver.
pub record HasWorked (may : MayGive) (ring : Ring) (end : WorkerEnd) : Type 0 where
  pub sent : List Word
  pub sends : HasSent may sent end.reason end.passed
  pub counted : end.changes ≡ length sent
  pub token : IfSome end.finished (λ (token : Sent Word). token ≡ record { ring = ring; sent = sent })
