-- The meaning of one record for a peer, if only the type of its message is read (RFC 4271, section 4.1; RFC 6396,
-- section 4.4).
use Rattle.std.specs.Prelude.{Option, Result}
use Rattle.rs_mrt.specs.Entry.{Meaning, entry_of}
use Rattle.rs_mrt.specs.Record.{MrtRecord}
use Rattle.rs_mrt.specs.declared.fault.MrtFault.{MrtFault}
use Rattle.rs_inventory.specs.Finding.{finding_by}
use Rattle.rs_inventory.specs.declared.depth.Depth.TheVariants.{Outline}
use Rattle.rs_inventory.specs.declared.finding.Note.{Note}

-- the note on a record, by its meaning
abbrev pub note_by : MrtRecord → Result Meaning MrtFault → Option Note
note_by r says = (finding_by Outline r says).note

-- the note that an outline has on a record
abbrev pub outline_note : MrtRecord → Option Note
outline_note r = note_by r (entry_of r)
