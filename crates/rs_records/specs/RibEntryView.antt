-- A RIB entry as a value.
use Rattle.rs_choice.specs.Decision.{SentRoute}
use Rattle.rs_records.specs.declared.rib.RibEntry.{RibEntry}

abbrev pub entry_of : RibEntry → SentRoute
entry_of entry = record { peer = entry.peer; time = entry.time; attributes = entry.attributes.now }
