-- What is read of a table, as values.
use Rattle.rs_start.specs.declared.rib.RibEntry.{RibEntry}
use Rattle.rs_start.specs.Table.{TableEntry}

abbrev pub entry_of : RibEntry → TableEntry
entry_of entry = record { peer = entry.peer; time = entry.time; section = entry.section.now }
