-- The changes of a peer's routes, as values (RFC 4271, sections 3.1 and 4.3).
use Rattle.std.specs.Prelude.{◌≡◌, ℕ, Bool, true, false, List, [], ◌∷◌, Option, Some, None}
use Rattle.rs_types.specs.IpPrefix.{IpPrefix}
use Rattle.rs_types.specs.PathAttributes.{PathAttributes}
use Rattle.rs_change.specs.declared.word.Body.{Body}
use Rattle.rs_change.specs.declared.word.Body.TheVariants.{Announce, Withdraw, Down, Close}
use Rattle.rs_change.specs.declared.word.Reason.{Reason}
use Rattle.rs_change.specs.declared.word.Reason.TheVariants as reasons
use Rattle.rs_change.specs.declared.word.Word.{Word}

-- What changed. The peer announced a prefix with attributes, or it withdrew a prefix. Or its session was lost, and
-- all its routes with it. Or its session closed for a reason; that is always the last change.
pub data ChangeBody : Type 0 where
  Announced : IpPrefix → PathAttributes → ChangeBody
  Withdrawn : IpPrefix → ChangeBody
  Lost : ChangeBody
  Closed : Reason → ChangeBody

-- a route change and its time, in seconds since 1970
pub record Change : Type 0 where
  pub time : ℕ
  pub body : ChangeBody

-- the change that a value of the program means; attributes in shared memory count by their value
abbrev pub body_of : Body → ChangeBody
body_of (Announce prefix attributes) = Announced prefix attributes.value
body_of (Withdraw prefix) = Withdrawn prefix
body_of Down = Lost
body_of (Close reason) = Closed reason

-- a change and its time, as the program's value means them
abbrev pub change_of : Word → Change
change_of word = record { time = word.time; body = body_of word.body }

-- the word that closes a session
abbrev pub closing_word : ℕ → Reason → Word
closing_word time reason = record { time = time; body = Close reason }

-- the first of the changes to come is given and the others are left; None is given only if no change was to come
abbrev pub GivesFirst : List Change → Option Word → List Change → Type 0
GivesFirst before (Some word) after = before ≡ change_of word ∷ after
GivesFirst before None after = (before ≡ []) × (after ≡ [])

-- whether a change is the close of the session
abbrev pub body_closes : ChangeBody → Bool
body_closes (Announced prefix attributes) = false
body_closes (Withdrawn prefix) = false
body_closes Lost = false
body_closes (Closed reason) = true

-- whether a change is the close of the session, whatever its time
abbrev pub is_close : Change → Bool
is_close change = body_closes change.body

-- whether a session closed because its records could not be read to their end
abbrev pub is_read : Reason → Bool
is_read reasons.Read = true
is_read reason = false

abbrev pub is_read_failure : Body → Bool
is_read_failure (Close reason) = is_read reason
is_read_failure body = false
