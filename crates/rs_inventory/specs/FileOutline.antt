-- The outline of a file: the content of its records, of each message no more than the type, and how the file ends
-- (RFC 6396, sections 2 and 4.4; RFC 4271, section 4.1).
use Rattle.std.specs.Prelude.{◌≡◌, ◌||◌, Bool, false, Option, Some, None}
use Rattle.rs_mrt.specs.Record.{MrtRecord}
use Rattle.rs_mrt.specs.declared.cut.Cut.{Cut}
use Rattle.rs_mrt.specs.declared.fault.MrtFault.{MrtFault}
use Rattle.rs_inventory.specs.Finding.{finding_of, is_peer}
use Rattle.rs_inventory.specs.Inventory.{HoldsNothing, TakesFinding}
use Rattle.rs_inventory.specs.declared.depth.Depth.TheVariants as depths
use Rattle.rs_inventory.specs.declared.file_outline.Outline.{Outline}
use Rattle.rs_types.specs.declared.peer_id.PeerId.{PeerId}

-- whether the recorder of a message, if it has one, is the server
abbrev pub is_recorder : Option PeerId → PeerId → Bool
is_recorder None server = false
is_recorder (Some recorder) server = is_peer recorder server

-- whether a record is a message that names the server as its recorder
abbrev pub is_recorded_by : PeerId → MrtRecord → Bool
is_recorded_by server r = is_recorder (finding_of depths.Outline r).recorder server

-- the outline of no record
pub record OutlinesNothing (outline : Outline) : Type 0 where
  pub held : HoldsNothing outline.held
  pub uncompressed : outline.held.compression ≡ None
  pub names_server : outline.names_server ≡ false
  pub cut : outline.cut ≡ None

-- one more record turns the old outline into the new one
pub record TakesRecord (server : PeerId) (old : Outline) (r : MrtRecord) (new : Outline) : Type 0 where
  pub held : TakesFinding old.held (finding_of depths.Outline r) new.held
  pub uncompressed : new.held.compression ≡ old.held.compression
  pub names_server : new.names_server ≡ old.names_server || is_recorded_by server r
  pub cut : new.cut ≡ old.cut

-- the outline of the same records if the file ends so
abbrev pub ended : Option MrtFault → Option Cut → Outline → Outline
ended end cut outline = record outline { held = record outline.held { end = end }; cut = cut }
