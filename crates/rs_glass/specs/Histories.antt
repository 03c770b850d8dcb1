-- The history of a prefix: what happened, and the route that a client gets after each step (RFC 4271, section 9.1).
use Rattle.std.specs.Prelude.{◌≡◌, ◌≢◌, ℕ, ◌==◌, ◌&&◌, nat_lt, Bool, true, false, not, if◌then◌else◌}
use Rattle.std.specs.Prelude.{List, [], ◌∷◌, ◌++◌, Option, None, Some, filter, length, map}
use Rattle.std.specs.List.{list_any, range_with_len}
use Rattle.std.specs.Option.{option_and_then, option_to_list}
use Rattle.rs_update.specs.IpPrefix.{IpPrefix}
use Rattle.rs_update.specs.PathAttributes.{PathAttributes}
use Rattle.rs_session.specs.Change.{Change, ChangeBody, Announced, Withdrawn, Lost, Closed, body_of, change_of}
use Rattle.rs_change.specs.declared.word.Reason.{Reason}
use Rattle.rs_choice.specs.Plan.{Plan}
use Rattle.rs_table.specs.Content.{TablesContent, rib_left, rib_of}
use Rattle.rs_table.specs.Left.{BecomeBy}
use Rattle.rs_session.specs.Change.{is_close}
use Rattle.rs_glass.specs.Behind.{each_behind}
use Rattle.rs_glass.specs.Explained.{best_from}
use Rattle.rs_glass.specs.Causes.{cause_known, loss_of_cause}
use Rattle.rs_glass.specs.declared.cause.Cause.{Cause}
use Rattle.rs_glass.specs.declared.cause.Cause.TheVariants as causes
use Rattle.rs_glass.specs.declared.happened.Happening.{Happening}
use Rattle.rs_glass.specs.declared.history.Event.{Event}
use Rattle.rs_glass.specs.declared.history.Event.TheVariants as events
use Rattle.rs_glass.specs.declared.history.Gets.{Gets}
use Rattle.rs_glass.specs.declared.history.History.{History}
use Rattle.rs_glass.specs.declared.loss.Loss.{Loss}
use Rattle.rs_glass.specs.declared.treated.Treated.{Treated}

-- ---- the tables after what happened

-- the changes of one peer, in their order
abbrev pub changes_from : ℕ → List Happening → List Change
changes_from peer happenings = map (λ one. change_of one.word) (filter (λ one. one.peer == peer) happenings)

-- the changes up to the first close, and the close; later changes do not count
abbrev pub up_to_close : List Change → List Change
up_to_close [] = []
up_to_close (change ∷ later) = change ∷ (if is_close change then [] else up_to_close later)

-- the tables that have, for each peer, what its changes leave
abbrev pub tables_after : Plan → List Happening → TablesContent
tables_after plan happenings =
    record {
      plan = plan;
      ribs = map (λ peer. rib_left (up_to_close (changes_from peer happenings)))
          (range_with_len 0 (length plan.peers));
    }

-- ---- what the client gets

-- an event as a value
pub data EventContent : Type 0 where
  Announcement : PathAttributes → EventContent
  Withdrawal : EventContent
  TreatmentFor : Treated → EventContent
  LossOf : Option Loss → EventContent
  CloseFor : Reason → EventContent

abbrev pub event_content : Event → EventContent
event_content (events.Announced attributes) = Announcement attributes.value
event_content events.Withdrawn = Withdrawal
event_content (events.Treated fault) = TreatmentFor fault
event_content (events.Lost loss) = LossOf loss
event_content (events.Closed reason) = CloseFor reason

-- a withdrawal by the peer, or an UPDATE at fault that is treated as one
abbrev pub withdrawal_by : Option Cause → EventContent
withdrawal_by None = Withdrawal
withdrawal_by (Some (causes.Lost loss)) = Withdrawal
withdrawal_by (Some (causes.Treated fault)) = TreatmentFor fault

-- the event of a change that came for this cause
abbrev pub event_of : ChangeBody → Option Cause → EventContent
event_of (Announced prefix attributes) cause = Announcement attributes
event_of (Withdrawn prefix) cause = withdrawal_by cause
event_of Lost cause = LossOf (loss_of_cause cause)
event_of (Closed reason) cause = CloseFor reason

-- an event, and the route that the client gets from then on
pub record GetsContent : Type 0 where
  pub time : ℕ
  pub microseconds : Option ℕ
  pub peer : ℕ
  pub event : EventContent
  pub best : Option ℕ

abbrev pub gets_content : Gets → GetsContent
gets_content gets =
    record {
      time = gets.time;
      microseconds = gets.microseconds;
      peer = gets.peer;
      event = event_content gets.event;
      best = gets.best;
    }

-- the number of the peer whose route the client gets, if a client is asked for
abbrev pub best_for : TablesContent → Option ℕ → IpPrefix → Option ℕ
best_for tables client prefix = option_and_then (λ client. best_from tables client prefix) client

-- the event and the client's route by the tables after it, if the event counts
abbrev pub gets_by : Bool → TablesContent → Option ℕ → IpPrefix → Happening → Option GetsContent
gets_by false tables client prefix one = None
gets_by true tables client prefix one =
    Some (record {
      time = one.time;
      microseconds = one.microseconds;
      peer = one.peer;
      event = event_of (body_of one.word.body) (cause_known one.put_in one.cause);
      best = best_for tables client prefix;
    })

-- an event counts if its peer is in the plan, and the peer's session did not close before
abbrev pub counts : Plan → List Happening → Happening → Bool
counts plan before one =
    nat_lt one.peer (length plan.peers) && not (list_any is_close (changes_from one.peer before))

module _ (plan : Plan) (client : Option ℕ) (prefix : IpPrefix) where
  -- the event with the client's route after it, if the event counts
  abbrev pub gets_after : List Happening → Happening → Option GetsContent
  gets_after before one =
      gets_by (counts plan before one) (tables_after plan (before ++ one ∷ [])) client prefix one

  -- all events that count, each with the client's route after it
  abbrev pub all_gets : List Happening → List GetsContent
  all_gets happenings = each_behind (λ before one. option_to_list (gets_after before one)) [] happenings

-- ---- one step

-- a peer is in the plan, and its session is open
abbrev pub is_open : TablesContent → ℕ → Bool
is_open tables peer = nat_lt peer (length tables.plan.peers) && not (rib_of tables peer).closed

-- the tables take an event of one peer; all other peers stay as they are
pub record Takes (old : TablesContent) (one : Happening) (new : TablesContent) : Type 0 where
  pub routes : BecomeBy (rib_of old one.peer).routes (change_of one.word) (rib_of new one.peer).routes
  pub closed : (rib_of new one.peer).closed ≡ is_close (change_of one.word)
  pub others : (other : ℕ) → other ≢ one.peer → rib_of new other ≡ rib_of old other
  pub plan : new.plan ≡ old.plan
  pub count : length new.ribs ≡ length old.ribs

abbrev pub TakesIf : Bool → TablesContent → Happening → TablesContent → Type 0
TakesIf false old one new = new ≡ old
TakesIf true old one new = Takes old one new

-- ---- the history

-- a time is before the other one, if that is given
abbrev pub is_before : ℕ → Option ℕ → Bool
is_before time None = false
is_before time (Some from) = nat_lt time from

-- the client's route after the last of these events, or else the one before
abbrev pub best_last : Option ℕ → List GetsContent → Option ℕ
best_last before [] = before
best_last before (gets ∷ later) = best_last gets.best later

-- The question stays the same. Of the client's routes, those from the given time on are listed, and the last one
-- before it is noted.
pub record Notes (asked : History) (all : List GetsContent) (history : History) : Type 0 where
  pub prefix : history.prefix ≡ asked.prefix
  pub client : history.client ≡ asked.client
  pub from : history.from ≡ asked.from
  pub events : map gets_content history.events.items
      ≡ map gets_content asked.events.items ++ filter (λ gets. not (is_before gets.time asked.from)) all
  pub before : history.before ≡ best_last asked.before (filter (λ gets. is_before gets.time asked.from) all)

-- the history of what happened: it notes the client's route after each event
abbrev pub IsHistory : Plan → List Happening → History → History → Type 0
IsHistory plan happenings asked history =
    Notes asked (all_gets plan asked.client asked.prefix happenings) history
