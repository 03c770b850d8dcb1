-- What may come of the octets that were taken and then the reader might come at the beginning, and no call has failed.
use Rattle.std.proofs.Common.{◌≡◌}
use Rattle.rs_inventory.specs.Front.{IsFrontOf, octets_wanted}
use Rattle.rs_inventory.proofs.front.Front.of.Given as goal

abbrev pub invariant-loop-front : goal.invariant-loop-front
invariant-loop-front g l = record {
  gives : IsFrontOf g.R.Read.gives l.initial.reader l.reader l.front;
  failures : g.R.Read.failures l.reader ≡ g.R.Read.failures l.initial.reader;
}

abbrev pub decreases-loop-front : goal.decreases-loop-front
decreases-loop-front g l = octets_wanted l.front
