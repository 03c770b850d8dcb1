-- One step in the reading of a session: a record is fetched, and its effect is applied (our choice).
use Rattle.std.specs.Prelude.{◌≡◌, ℕ, ◌+◌, Bool, true, false, List, [], ◌∷◌, Option, Some, None, Result, Ok, Err}
use Rattle.rs_mrt.specs.Record.{MrtRecord}
use Rattle.rs_mrt.specs.declared.fault.SourceFault.{SourceFault}
use Rattle.rs_mrt.specs.declared.fault.SourceFault.TheVariants as faults
use Rattle.rs_change.specs.Change.{change_of, closing_word, is_close, is_read}
use Rattle.rs_session.specs.Effect.{RecordEffect, PassesOver, Gives, Ends, effect_of}
use Rattle.rs_session.specs.FileChanges.{reason_at_end}
use Rattle.rs_session.specs.Stage.{Comes, Stage, MayRead}
use Rattle.rs_change.specs.declared.word.Reason.{Reason}
use Rattle.rs_change.specs.declared.word.Reason.TheVariants as reasons
use Rattle.rs_change.specs.declared.word.Word.{Word}

-- ---- giving

-- The first waiting change is given, and the records passed over before it are counted. Or no change waits, and
-- nothing changes.
abbrev pub GivesWaiting : {S : Type 0} → Stage S → Option Word → Stage S → Type 0
GivesWaiting old (Some word) new =
    (old.waiting ≡ change_of word ∷ new.waiting)
    × (is_close (change_of word) ≡ false)
    × (new ≡ record old { waiting = new.waiting; passed = old.passed + old.skipped; skipped = 0 })
GivesWaiting old None new = (old.waiting ≡ []) × (new ≡ old)

-- ---- fetching

-- None: whatever records may be read now might have been read before, and one may be at hand. Some reason: there may
-- be no record, for this reason.
abbrev pub Fetches : {S : Type 0} → Comes S → (S → Option MrtRecord) → Stage S → Stage S → Option Reason → Type 0
Fetches comes shows old new None =
    (records : List MrtRecord) (end : Option SourceFault) → MayRead comes shows new records end
    → MayRead comes shows old records end
Fetches comes shows old new (Some reason) =
    (end : Option SourceFault) × MayRead comes shows old [] end × (reason ≡ reason_at_end end)

-- the last answer of the source, after a record was fetched or was not
abbrev pub answer_of_fetch : Option Reason → Result Bool SourceFault
answer_of_fetch (Some reasons.Read) = Err faults.Read
answer_of_fetch reason = Ok true

-- ---- applying

-- the session is closed, and the records that were passed over are counted
abbrev pub closed_by : {S : Type 0} → Stage S → Stage S
closed_by stage = record stage { held = false; closed = true; passed = stage.passed + stage.skipped; skipped = 0 }

-- the effect of a record is applied to the session; only a close is given at once
abbrev pub Applies : {S : Type 0} → ℕ → RecordEffect → Stage S → Option Word → Stage S → Type 0
Applies time PassesOver old None new = new ≡ record old { held = false; skipped = old.skipped + 1 }
Applies time (Gives changes) old None new = new ≡ record old { held = false; waiting = changes }
Applies time (Ends reason) old (Some word) new =
    (word ≡ closing_word time reason) × (is_read reason ≡ false) × (new ≡ closed_by old)
Applies time PassesOver old (Some word) new = ⊥
Applies time (Gives changes) old (Some word) new = ⊥
Applies time (Ends reason) old None new = ⊥

-- the record that is shown is read
abbrev pub ReadsShown : {S : Type 0} → Option MrtRecord → Stage S → Option Word → Stage S → Type 0
ReadsShown None old given new = (given ≡ None) × (new ≡ record old { held = false })
ReadsShown (Some r) old given new = Applies r.time (effect_of old.errors old.peer r) old given new
