-- The content of the records of one peer.
use Rattle.std.specs.Prelude.{◌≡◌, ℕ, ◌==◌, ◌^◌, ◌+◌, ◌-◌, min, Bool, true, false, if◌then◌else◌, List, [], ◌∷◌, ◌++◌}
use Rattle.std.specs.Prelude.{length, slice_get, Option, Some, None, sum_by, count_by, filter_map}
use Rattle.rs_inventory.specs.Course.{course_of, course_with}
use Rattle.rs_inventory.specs.Sessions.{Event, Up, Shown, Down, came_up, sessions_of, with_end, with_shown}
use Rattle.rs_inventory.specs.declared.course.Course.{Course}
use Rattle.rs_inventory.specs.declared.finding.News.{News}
use Rattle.rs_inventory.specs.declared.finding.News.TheVariants as news
use Rattle.rs_inventory.specs.declared.sessions.SessionTimes.{SessionTimes}

-- a count stops at the largest number of 64 bits (our choice)
abbrev pub counted : ℕ → ℕ
counted n = min n (2 ^ 64 - 1)

-- whether a record is a message of a session with four-octet AS numbers
abbrev pub is_message : News → Bool
is_message news.Up = false
is_message news.Down = false
is_message news.State = false
is_message (news.TwoOctetOpen identifier) = false
is_message other = true

-- whether a record is a change of state
abbrev pub is_state_change : News → Bool
is_state_change news.Up = true
is_state_change news.Down = true
is_state_change news.State = true
is_state_change other = false

-- whether a record is a message with a fault
abbrev pub is_faulty : News → Bool
is_faulty news.Faulty = true
is_faulty other = false

-- how many prefixes a record announces, and below, how many it withdraws
abbrev pub announced_by : News → ℕ
announced_by (news.Update announced withdrawn) = announced
announced_by other = 0

abbrev pub withdrawn_by : News → ℕ
withdrawn_by (news.Update announced withdrawn) = withdrawn
withdrawn_by other = 0

-- the BGP Identifier in a record
abbrev pub identifier_in : News → Option ℕ
identifier_in (news.Open identifier) = Some identifier
identifier_in (news.TwoOctetOpen identifier) = Some identifier
identifier_in other = None

-- What a record says of a session. A NOTIFICATION ends a session too, and an UPDATE comes only of one that is up (RFC
-- 4271, sections 6.4 and 8.2.2).
abbrev pub event_at : ℕ → News → Option Event
event_at time (news.Update announced withdrawn) = Some (Shown time)
event_at time news.Notification = Some (Down time)
event_at time news.Up = Some (Up time)
event_at time news.Down = Some (Down time)
event_at time other = None

-- whether there is a number, and it is this one
abbrev pub is_same : Option ℕ → ℕ → Bool
is_same None n = false
is_same (Some m) n = m == n

-- the numbers that differ from the one before; `before` stands before the first
abbrev pub changing : Option ℕ → List ℕ → List ℕ
changing before [] = []
changing before (n ∷ later) = if is_same before n then changing (Some n) later else n ∷ changing (Some n) later

-- the content of a peer's records
pub record PeerContent : Type 0 where
  pub messages : ℕ
  pub state_changes : ℕ
  pub faulty : ℕ
  pub announced : ℕ
  pub withdrawn : ℕ
  pub identifiers : List ℕ
  pub sessions : List SessionTimes
  pub course : Course

-- the meaning of a record for a peer, with its Timestamp
abbrev pub Told : Type 0
Told = ℕ × News

-- the content of all records of a peer
unfoldable pub peer_content : List Told → PeerContent
peer_content told = record {
  messages = counted (count_by (λ t. is_message t.1) told);
  state_changes = counted (count_by (λ t. is_state_change t.1) told);
  faulty = counted (count_by (λ t. is_faulty t.1) told);
  announced = counted (sum_by (λ t. announced_by t.1) told);
  withdrawn = counted (sum_by (λ t. withdrawn_by t.1) told);
  identifiers = changing None (filter_map (λ t. identifier_in t.1) told);
  sessions = sessions_of (filter_map (λ t. event_at t.0 t.1) told);
  course = course_of told;
}

-- one more record turns the old content into the new one, whatever the records before are
abbrev pub TellsMore : PeerContent → ℕ → News → PeerContent → Type 0
TellsMore old time one new =
    (told : List Told) → old ≡ peer_content told → new ≡ peer_content (told ++ (time, one) ∷ [])

-- ---- one more record

-- what a record adds to a count, by whether it passes a test
abbrev pub one_if : Bool → ℕ
one_if b = if b then 1 else 0

-- the counts after one more record
abbrev pub with_counts : News → PeerContent → PeerContent
with_counts one p = record p {
  messages = counted (p.messages + one_if (is_message one));
  state_changes = counted (p.state_changes + one_if (is_state_change one));
  faulty = counted (p.faulty + one_if (is_faulty one));
  announced = counted (p.announced + announced_by one);
  withdrawn = counted (p.withdrawn + withdrawn_by one);
}

-- the numbers with one more, if there is one that differs from the last
abbrev pub with_next : List ℕ → Option ℕ → List ℕ
with_next numbers None = numbers
with_next numbers (Some n) = if is_same (slice_get numbers (length numbers - 1)) n then numbers else numbers ++ n ∷ []

-- the BGP Identifiers after one more record
abbrev pub with_identifier : News → PeerContent → PeerContent
with_identifier one p = record p { identifiers = with_next p.identifiers (identifier_in one) }

-- the sessions after one more event, if there is one
abbrev pub with_event : Option Event → List SessionTimes → List SessionTimes
with_event None sessions = sessions
with_event (Some (Up time)) sessions = sessions ++ came_up false time None ∷ []
with_event (Some (Shown time)) sessions = with_shown time sessions
with_event (Some (Down time)) sessions = with_end time sessions

-- the sessions after one more record
abbrev pub with_session : ℕ → News → PeerContent → PeerContent
with_session time one p = record p { sessions = with_event (event_at time one) p.sessions }

-- how the records begin and go on, after one more record
abbrev pub with_course : ℕ → News → PeerContent → PeerContent
with_course time one p = record p { course = course_with time one p.course }
