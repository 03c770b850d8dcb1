-- The rings of the sources that were taken are open, each with the room that was asked for.
use Rattle.std.proofs.Common.{◌≡◌, length}
use Rattle.std.specs.Vec.Iter.{into_iter_items, into_iter_len}
use Rattle.rs_serve.specs.Lines.{HaveRoom}
use Rattle.rs_serve.proofs.serving.OpenLemmas.{Opening}
use Rattle.rs_serve.proofs.lines.open_lines.Given as goal

abbrev pub invariant-loop-source : goal.invariant-loop-source
invariant-loop-source g l = record {
  opening : Opening l.plan.peers (into_iter_items l.initial.source-iterator) (into_iter_items l.source-iterator)
      l.lines.jobs.items l.lines.from.items;
  capacity : HaveRoom l.capacity l.lines.jobs.items;
  left : into_iter_len l.source-iterator ≡ length (into_iter_items l.source-iterator);
}
