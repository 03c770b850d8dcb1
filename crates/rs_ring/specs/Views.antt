-- The ends of a ring by their fields.
use Rattle.std.specs.declared.alloc.Global.{Global}
use Rattle.rtrb.specs.declared.end.End.{End}
use Rattle.rs_ring.specs.Ends.{Ring}

abbrev pub ring_of : {T P : Type 0} → End T Global P → Ring
ring_of end = record { positions = end.words; slots = end.slots; history = end.names; heap = end.heap }
