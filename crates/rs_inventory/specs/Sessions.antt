-- When the sessions of a peer came up and went down (RFC 6396, section 4.4.1; RFC 4271, sections 6.4 and 8.2.2).
use Rattle.std.specs.Prelude.{ℕ, ◌-◌, Bool, true, false, if◌then◌else◌, List, [], ◌∷◌, ◌++◌, length, slice_get}
use Rattle.std.specs.Prelude.{Option, Some, None}
use Rattle.std.specs.Option.{option_or}
use Rattle.rs_inventory.specs.declared.sessions.SessionTimes.{SessionTimes}

-- a session came up or went down, at a time, or an UPDATE shows that one is up
pub data Event : Type 0 where
  Up : ℕ → Event
  Shown : ℕ → Event
  Down : ℕ → Event

-- When the session went down that was up before these events. It is at the first event that is no UPDATE, if that is a
-- loss (our choice).
abbrev pub end_by : List Event → Option ℕ
end_by [] = None
end_by (Up time ∷ later) = None
end_by (Shown time ∷ later) = end_by later
end_by (Down time ∷ later) = Some time

-- the session that came up at a time, and that went down then, if it did; an UPDATE alone may show it
abbrev pub came_up : Bool → ℕ → Option ℕ → SessionTimes
came_up shown time down = record { up = Some time; down = down; shown = shown }

-- The sessions that come up among these events. The one before them may be lost. Then an UPDATE shows another one.
abbrev pub coming_up : Bool → List Event → List SessionTimes
coming_up lost [] = []
coming_up lost (Up time ∷ later) = came_up false time (end_by later) ∷ coming_up false later
coming_up lost (Shown time ∷ later) =
    if lost then came_up true time (end_by later) ∷ coming_up false later else coming_up false later
coming_up lost (Down time ∷ later) = coming_up true later

-- a session that was up before all events, and went down at a time
abbrev pub was_up : ℕ → SessionTimes
was_up time = record { up = None; down = Some time; shown = false }

-- the session that was up before all events; there is one if the first event that is no UPDATE is a loss
abbrev pub up_before : List Event → List SessionTimes
up_before [] = []
up_before (Up time ∷ later) = []
up_before (Shown time ∷ later) = up_before later
up_before (Down time ∷ later) = was_up time ∷ []

-- the sessions of a peer, in order
abbrev pub sessions_of : List Event → List SessionTimes
sessions_of events = up_before events ++ coming_up false events

-- ---- one more event

-- a session ends at this time, if it has no end yet
abbrev pub ended_at : ℕ → SessionTimes → SessionTimes
ended_at time session = record { up = session.up; down = option_or session.down (Some time); shown = session.shown }

-- the last of the sessions ends; if there is none, a session that was up before all events ends
abbrev pub with_end : ℕ → List SessionTimes → List SessionTimes
with_end time [] = was_up time ∷ []
with_end time (session ∷ []) = ended_at time session ∷ []
with_end time (session ∷ next ∷ later) = session ∷ with_end time (next ∷ later)

-- there is a time
abbrev pub is_known : Option ℕ → Bool
is_known None = false
is_known (Some time) = true

-- there is a session, and it went down
abbrev pub is_ended : Option SessionTimes → Bool
is_ended None = false
is_ended (Some session) = is_known session.down

-- an UPDATE at a time shows another session, if the last one went down
abbrev pub with_shown : ℕ → List SessionTimes → List SessionTimes
with_shown time sessions =
    if is_ended (slice_get sessions (length sessions - 1)) then sessions ++ came_up true time None ∷ [] else sessions
