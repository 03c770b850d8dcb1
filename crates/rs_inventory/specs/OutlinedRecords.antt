-- The records of a file, of which an outline is made while they are shown (RFC 6396, section 2). Our choice: an outline
-- may be given up at any record, as where memory is refused. Then nothing is known of the file.
use Rattle.std.specs.Prelude.{◌≡◌, Bool, true, false, List, map, Option, Some, None, Result, Ok, Err}
use Rattle.std.specs.List.{list_any}
use Rattle.std.specs.Option.{option_map}
use Rattle.rs_mrt.specs.Cut.{cut_of}
use Rattle.rs_mrt.specs.Leniency.{answer_at_end}
use Rattle.rs_mrt.specs.Record.{MrtRecord}
use Rattle.rs_mrt.specs.RecordReading.{RecordReading}
use Rattle.rs_mrt.specs.Source.{source_end}
use Rattle.rs_mrt.specs.declared.cut.Cut.{Cut}
use Rattle.rs_mrt.specs.declared.fault.SourceFault.{SourceFault}
use Rattle.rs_mrt.specs.declared.fault.SourceFault.TheVariants.{Mrt, Read}
use Rattle.rs_inventory.specs.FileOutline.{TakesRecord, ended, is_recorded_by}
use Rattle.rs_inventory.specs.Finding.{finding_of}
use Rattle.rs_inventory.specs.Inventory.{Holds}
use Rattle.rs_inventory.specs.declared.depth.Depth.TheVariants as depths
use Rattle.rs_inventory.specs.declared.file_outline.Outline.{Outline}
use Rattle.rs_types.specs.declared.peer_id.PeerId.{PeerId}

-- a reader of records, the server as records name it, and what is gathered of the records that were shown
pub record Outlining (R : Type 0) : Type 0 where
  pub source : RecordReading R
  pub server : PeerId
  pub gathered : Option Outline

-- What is gathered after a record was shown. If there is an outline, there was one before, and it has taken this
-- record.
abbrev pub TakesShown : PeerId → Option Outline → Option MrtRecord → Option Outline → Type 0
TakesShown server old shown None = Unit {0}
TakesShown server (Some old) (Some r) (Some new) = TakesRecord server old r new
TakesShown server old shown (Some new) = ⊥

-- what is gathered after an answer: at the end of the records, and after a fault, nothing any more
abbrev pub Gathers : {R : Type 0} → Outlining R → Outlining R → Result Bool SourceFault → Type 0
Gathers old new (Ok true) = TakesShown old.server old.gathered new.source.shown new.gathered
Gathers old new (Ok false) = new.gathered ≡ None
Gathers old new (Err fault) = new.gathered ≡ None

-- the outline of the file, if the records end with this answer and a record is cut short so; none after a failed read
abbrev pub whole_by : Result Bool SourceFault → Option Cut → Option Outline → Option Outline
whole_by (Ok more) cut gathered = option_map (ended None cut) gathered
whole_by (Err (Mrt fault)) cut gathered = option_map (ended (Some fault) cut) gathered
whole_by (Err Read) cut gathered = None

-- ---- a whole file

-- These records may be all that come. The outline has their content, says whether one of them names the server as its
-- recorder, and says how they end. `last` is the reader behind them.
pub record IsFileOutline {R : Type 0} (server : PeerId)
    (comes : RecordReading R → List MrtRecord → Option SourceFault → Type 0) (source : RecordReading R)
    (outline : Outline) : Type 0 where
  pub records : List MrtRecord
  pub come : comes source records (source_end outline.held.end)
  pub holds : Holds (map (finding_of depths.Outline) records) outline.held
  pub names_server : outline.names_server ≡ list_any (is_recorded_by server) records
  pub last : RecordReading R
  pub stopped : last.stopped ≡ Some (answer_at_end (source_end outline.held.end))
  pub cut : outline.cut ≡ cut_of last
