-- Records came so far that may come, whatever may come after them, and the outline is of these.
use Rattle.rs_mrt.specs.RecordReading.{MayCome, room_left}
use Rattle.rs_inventory.proofs.OutlineLemmas.{OutlineGoing}
use Rattle.rs_inventory.proofs.reading.outline_of.Given as goal

abbrev pub invariant-loop-outline : goal.invariant-loop-outline
invariant-loop-outline g l = OutlineGoing l.initial.server (MayCome g.R.Read.gives) l.initial.source l.source l.outline

abbrev pub decreases-loop-outline : goal.decreases-loop-outline
decreases-loop-outline g l = room_left l.source
