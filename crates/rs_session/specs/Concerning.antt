-- Which changes concern a prefix, and which are passed over if only this prefix is asked for, up to a time (RFC
-- 4271, sections 3.1 and 9.1.4).
use Rattle.std.specs.Prelude.{◌≡◌, ℕ, nat_lt, Bool, true, false, List, [], ◌∷◌, ◌++◌}
use Rattle.std.specs.Prelude.{Option, Some, None, Result, Ok, Err}
use Rattle.std.specs.List.{list_any}
use Rattle.std.specs.declared.alloc.AllocError.{AllocError}
use Rattle.rs_mrt.specs.Record.{MrtRecord}
use Rattle.rs_update.specs.Covering.{covers}
use Rattle.rs_update.specs.IpPrefix.{IpPrefix}
use Rattle.rs_change.specs.Change.{Change, ChangeBody, Announced, Withdrawn, Lost, Closed, change_of, is_close}
use Rattle.rs_session.specs.Effect.{RecordEffect, PassesOver, Gives, Ends, effect_of}
use Rattle.rs_session.specs.Stage.{Comes, Stage, May, IsOver, Says}
use Rattle.rs_session.specs.declared.beside.Only.{Only}
use Rattle.rs_change.specs.declared.word.Word.{Word}

-- a change concerns a prefix if it announces or withdraws a prefix that covers it, or is a loss or a close
abbrev pub body_concerns : IpPrefix → ChangeBody → Bool
body_concerns prefix (Announced changed attributes) = covers changed prefix
body_concerns prefix (Withdrawn changed) = covers changed prefix
body_concerns prefix Lost = true
body_concerns prefix (Closed reason) = true

abbrev pub concerns : IpPrefix → Change → Bool
concerns prefix change = body_concerns prefix change.body

-- a time is past a limit; no time is past if there is no limit
abbrev pub is_past : Option ℕ → ℕ → Bool
is_past None time = false
is_past (Some until) time = nat_lt until time

-- a change is later than the limit
abbrev pub is_later : Option ℕ → Change → Bool
is_later until change = is_past until change.time

-- changes that may be passed over: none concerns the prefix, and none is later than the limit
pub record ArePassedOver (prefix : IpPrefix) (until : Option ℕ) (changes : List Change) : Type 0 where
  pub beside : list_any (concerns prefix) changes ≡ false
  pub in_time : list_any (is_later until) changes ≡ false

-- ---- the answers to `next_word_on`

-- these changes, and then whatever may come in the new state, may come in the old state
abbrev pub KeepsBehindAll : {S : Type 0} → Comes S → (S → Option MrtRecord) → List Change → Stage S → Stage S → Type 0
KeepsBehindAll comes shows front old new =
    (changes : List Change) (passed : ℕ) → May comes shows new changes passed
    → May comes shows old (front ++ changes) passed

-- these changes were passed over; from there, the answer means what an answer to `next_word` means
abbrev pub SaysBehind : {S : Type 0} → Comes S → (S → Option MrtRecord) → List Change → Stage S → Stage S
    → Result (Option Word) AllocError → Type 0
SaysBehind comes shows over old new (Ok (Some word)) =
    KeepsBehindAll comes shows (over ++ change_of word ∷ []) old new
    × (is_close (change_of word) ≡ true → IsOver comes shows new)
SaysBehind comes shows over old new (Ok None) = IsOver comes shows old × (new ≡ old)
SaysBehind comes shows over old new (Err refused) = KeepsBehindAll comes shows over old new × (new.passed ≡ old.passed)

-- Some changes were passed over. None of these concerns the prefix, and none is later than the limit. From there,
-- the answer means what an answer to `next_word` means. If memory was refused, changes that were passed over stay
-- passed over.
pub record SaysOn {S : Type 0} (comes : Comes S) (shows : S → Option MrtRecord) (prefix : IpPrefix) (until : Option ℕ)
    (old new : Stage S) (result : Result (Option Word) AllocError) : Type 0 where
  pub over : List Change
  pub are_over : ArePassedOver prefix until over
  pub says : SaysBehind comes shows over old new result

-- ---- the loop and the step of `next_word`, which asks for every change (None), and of `next_word_on`

-- changes that may be passed over; if every change is asked for, there are none
abbrev pub MayPass : Option Only → List Change → Type 0
MayPass None changes = changes ≡ []
MayPass (Some only) changes = ArePassedOver only.prefix only.until changes

-- the meaning of an answer to either function
abbrev pub SaysOf : {S : Type 0} → Comes S → (S → Option MrtRecord) → Option Only → Stage S → Stage S
    → Result (Option Word) AllocError → Type 0
SaysOf comes shows None old new result = Says comes shows old new result
SaysOf comes shows (Some only) old new result = SaysOn comes shows only.prefix only.until old new result

-- the changes of a record may be passed over
abbrev pub IsBeside : Option Only → RecordEffect → Type 0
IsBeside only (Gives changes) = MayPass only changes
IsBeside only PassesOver = ⊥
IsBeside only (Ends reason) = ⊥

-- true: the record that is shown is passed over, since its changes may be; false: nothing changes
abbrev pub PassesShown : {S : Type 0} → Option MrtRecord → Option Only → Stage S → Bool → Stage S → Type 0
PassesShown shown only old false new = new ≡ old
PassesShown (Some r) only old true new =
    IsBeside only (effect_of old.errors old.peer r) × (new ≡ record old { held = false })
PassesShown None only old true new = ⊥

-- These changes were passed over. Then the session goes on, and whatever may come now might have come before. Or the
-- close is given.
abbrev pub StepsBehind : {S : Type 0} → Comes S → (S → Option MrtRecord) → List Change → Stage S → Stage S
    → Result (Option Word) AllocError → Type 0
StepsBehind comes shows over old new (Ok None) =
    KeepsBehindAll comes shows over old new × (new.closed ≡ false) × (new.passed ≡ old.passed)
StepsBehind comes shows over old new (Ok (Some word)) =
    KeepsBehindAll comes shows (over ++ change_of word ∷ []) old new
    × (is_close (change_of word) ≡ true) × (new.closed ≡ true)
StepsBehind comes shows over old new (Err refused) =
    KeepsBehindAll comes shows over old new × (new.closed ≡ false) × (new.passed ≡ old.passed)

pub record StepsOf {S : Type 0} (comes : Comes S) (shows : S → Option MrtRecord) (only : Option Only)
    (old new : Stage S) (result : Result (Option Word) AllocError) : Type 0 where
  pub over : List Change
  pub may_pass : MayPass only over
  pub steps : StepsBehind comes shows over old new result
