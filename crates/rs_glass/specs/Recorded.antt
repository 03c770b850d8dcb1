-- The recorded session of a peer, as far as a prefix is concerned.
use Rattle.std.specs.Prelude.{◌≡◌, ◌↔◌, ◌<◌, ℕ, Bool, true, false, if◌then◌else◌, List, reverse}
use Rattle.std.specs.Prelude.{Option, None, Some, slice_get}
use Rattle.std.specs.FinMap.{get}
use Rattle.std.specs.List.{find}
use Rattle.std.specs.Option.{option_and_then, option_map_or}
use Rattle.rs_update.specs.Covering.{covers}
use Rattle.rs_update.specs.IpPrefix.{IpPrefix}
use Rattle.rs_mrt.specs.Record.{MrtRecord}
use Rattle.rs_session.specs.Change.{Change, ChangeBody, Announced, Withdrawn, Lost, Closed, is_read, is_close}
use Rattle.rs_session.specs.Closing.{is_cut_short}
use Rattle.rs_session.specs.Stage.{Comes}
use Rattle.rs_session.specs.Told.{MayTell}
use Rattle.rs_types.specs.declared.peer_id.PeerId.{PeerId}
use Rattle.rs_change.specs.declared.word.Reason.{Reason}
use Rattle.rs_choice.specs.Plan.{Peer, Plan, id_of}
use Rattle.rs_table.specs.Content.{TablesContent, rib_of}
use Rattle.rs_table.specs.Left.{Leaves, RouteLeft, Routes}
use Rattle.rs_explain.specs.LastSaid.{IsSaidLast}
use Rattle.rs_explain.specs.declared.last_said.EndedBy.{EndedBy}
use Rattle.rs_explain.specs.declared.last_said.EndedBy.TheVariants as ended
use Rattle.rs_explain.specs.declared.last_said.LastSaid.{LastSaid}
use Rattle.rs_explain.specs.declared.last_said.LastSaid.TheVariants as last
use Rattle.rs_glass.specs.declared.fault.GlassFault.{GlassFault}
use Rattle.rs_glass.specs.declared.fault.GlassFault.TheVariants.{Memory, Read}
use Rattle.rs_glass.specs.declared.question.Question.{Question}
use Rattle.rs_glass.specs.declared.said.Said.{Said}

-- why a session with these changes closed: the reason of the last close among them, if there is one
abbrev pub body_reason : ChangeBody → Option Reason
body_reason (Announced prefix attributes) = None
body_reason (Withdrawn prefix) = None
body_reason Lost = None
body_reason (Closed reason) = Some reason

abbrev pub close_in : List Change → Option Reason
close_in changes = option_and_then (λ change. body_reason change.body) (find is_close (reverse changes))

-- why the session closed, after one more change
abbrev pub close_after : Option Reason → ChangeBody → Option Reason
close_after before (Announced prefix attributes) = before
close_after before (Withdrawn prefix) = before
close_after before Lost = before
close_after before (Closed reason) = Some reason

-- the close says that a read failed
abbrev pub is_failed_read : Option Reason → Bool
is_failed_read close = option_map_or is_read close false

-- When a route was announced, if it is there, or when it was removed. A close because of a record at fault has the
-- time of the record. A close because of a record that is cut short has no time, and neither has a route that was
-- never announced.
abbrev pub ended_at : ℕ → EndedBy → Option ℕ
ended_at time (ended.Close reason) = if is_cut_short reason then None else Some time
ended_at time by = Some time

abbrev pub time_of : LastSaid → Option ℕ
time_of last.NeverAnnounced = None
time_of (last.Announced time) = Some time
time_of (last.Ended announced ending) = ended_at ending.time ending.by

-- the answer for a prefix by some changes: the last changes on the prefix, and why the session closed
pub record IsSaid (prefix : IpPrefix) (changes : List Change) (said : Said) : Type 0 where
  pub last : IsSaidLast prefix changes said.last
  pub close : said.close ≡ close_in changes

-- the answer for a prefix by some changes; on each prefix that covers it, they leave these routes
pub record AreTold (prefix : IpPrefix) (changes : List Change) (routes : Routes) (said : Said) : Type 0 where
  pub is_said : IsSaid prefix changes said
  pub left_on : (wide : IpPrefix) → covers wide prefix ≡ true → (route : RouteLeft)
      → Leaves changes wide route ↔ (get routes wide ≡ Some route)

module _ {S : Type 0} (comes : Comes S) (shows : S → Option MrtRecord) (question : Question) where
  -- All changes that a peer's session over its source may tell. If a read fails, they are those before it, and the
  -- close that says so.
  pub record AreChangesOf (peer : PeerId) (source : S) (changes : List Change) : Type 0 where
    pub passed : ℕ
    pub says : MayTell comes shows question.errors peer source (record { changes = changes; passed = passed })

  -- the answer for the prefix that is asked for by the recorded session of a peer, or by its changes before a failed
  -- read
  abbrev pub IsSaidBefore : PeerId → S → Routes → Said → Type 0
  IsSaidBefore peer source routes said =
      (changes : List Change) × AreChangesOf peer source changes × AreTold question.prefix changes routes said

  -- the answer for the prefix that is asked for by the recorded session of a peer, if no read failed
  abbrev pub IsSaidOf : PeerId → S → Routes → Said → Type 0
  IsSaidOf peer source routes said =
      IsSaidBefore peer source routes said × (is_failed_read said.close ≡ false)

  -- the recorded session of a peer closes because of a failed read
  abbrev pub ClosesUnread : PeerId → S → Type 0
  ClosesUnread peer source =
      (changes : List Change) × AreChangesOf peer source changes × (is_failed_read (close_in changes) ≡ true)

  -- a fault of a peer's source: a read failed, or memory was refused
  abbrev pub IsFaultOf : PeerId → S → ℕ → GlassFault → Type 0
  IsFaultOf peer source number Memory = Unit {0}
  IsFaultOf peer source number (Read faulty) = (faulty ≡ number) × ClosesUnread peer source

  -- the answers for the peers below a number, and their routes in the tables, each by the peer's own recorded session
  abbrev pub AreSaidOf : Plan → List S → ℕ → TablesContent → List Said → Type 0
  AreSaidOf plan sources count tables all =
      (number : ℕ) → number < count → (peer : Peer) → slice_get plan.peers number ≡ Some peer → (source : S)
      → slice_get sources number ≡ Some source → (said : Said) → slice_get all number ≡ Some said
      → IsSaidOf (id_of peer) source (rib_of tables number).routes said

  -- a fault of the sources: a read of the named peer's records failed, or memory was refused
  abbrev pub IsFaultAmong : Plan → List S → GlassFault → Type 0
  IsFaultAmong plan sources Memory = Unit {0}
  IsFaultAmong plan sources (Read faulty) =
      (peer : Peer) × (slice_get plan.peers faulty ≡ Some peer) × ((source : S)
      × (slice_get sources faulty ≡ Some source) × ClosesUnread (id_of peer) source)
