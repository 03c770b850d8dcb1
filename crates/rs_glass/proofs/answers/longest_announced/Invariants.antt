use Rattle.rs_glass.proofs.CoveringLemmas.{Lack}
use Rattle.rs_glass.proofs.answers.longest_announced.Given as goal

abbrev pub invariant-loop-dropped : goal.invariant-loop-dropped
invariant-loop-dropped l = Lack l.tables.ribs l.prefix l.dropped
