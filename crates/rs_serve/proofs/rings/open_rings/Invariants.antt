-- As many rings are open as were counted, each with the room that was asked for.
use Rattle.std.proofs.Common.{◌≡◌, length}
use Rattle.rs_serve.specs.Lines.{RingsHaveRoom}
use Rattle.rs_serve.proofs.serving.OpenLemmas.{OpeningRings}
use Rattle.rs_serve.proofs.rings.open_rings.Given as goal

abbrev pub invariant-loop-shard : goal.invariant-loop-shard
invariant-loop-shard l = record {
  opening : OpeningRings l.plan.value l.rings.jobs.items l.rings.to.items;
  room : RingsHaveRoom l.capacity l.rings.to.items;
  counted : length l.rings.jobs.items ≡ l.shard;
}
