-- One peer: its session and its ring.
use Rattle.std.specs.Prelude.{◌≡◌, ◌<◌, ℕ, false, List, length, map, take}
use Rattle.std.specs.List.{list_any}
use Rattle.rs_mrt.specs.Record.{Reading}
use Rattle.rs_mrt.specs.Source.{source_end}
use Rattle.rs_session.specs.Change.{Change, change_of, is_close}
use Rattle.rs_session.specs.FileChanges.{changes_in}
use Rattle.rs_session.specs.Stage.{Stage, to_read, changes_left}
use Rattle.rs_types.specs.declared.peer_id.PeerId.{PeerId}
use Rattle.rs_change.specs.declared.word.Word.{Word}
use Rattle.rs_floor.specs.Schedule.{at_start, after_turn, after_turns}
use Rattle.rs_floor.specs.declared.counts.Counts.{Counts}
use Rattle.rs_floor.specs.declared.turn.Turn.{Turn}

-- all changes in the peer's file, the capacity of its ring, and how many changes were sent and received
pub record LaneContent : Type 0 where
  pub recorded : List Change
  pub capacity : ℕ
  pub counts : Counts

-- the changes of a file in memory that its session hasn't given yet
abbrev pub to_come : Stage Reading → List Change
to_come stage =
    changes_left stage (to_read stage.held stage.source.shown stage.source.left) (source_end stage.source.end)

-- the changes that were sent
abbrev pub sent_changes : List Word → List Change
sent_changes sent = map change_of sent

-- no change before the last one is a close
abbrev pub NoneClosesBefore : List Change → Type 0
NoneClosesBefore recorded = (n : ℕ) → n < length recorded → list_any is_close (take n recorded) ≡ false

-- a lane before the first turn
abbrev pub fresh_lane : ℕ → PeerId → List ℕ → LaneContent
fresh_lane capacity peer file = record { recorded = changes_in peer file; capacity = capacity; counts = at_start }

-- a lane after one turn, and below, after several
abbrev pub lane_after : ℕ → LaneContent → Turn → LaneContent
lane_after peer lane turn =
    record lane { counts = after_turn lane.capacity (length lane.recorded) peer lane.counts turn }

abbrev pub lane_through : List Turn → ℕ → LaneContent → LaneContent
lane_through turns peer lane =
    record lane { counts = after_turns lane.capacity (length lane.recorded) peer lane.counts turns }

-- the changes that were received
abbrev pub received_of : LaneContent → List Change
received_of lane = take lane.counts.received lane.recorded
