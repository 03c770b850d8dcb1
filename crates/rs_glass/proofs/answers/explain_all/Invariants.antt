use Rattle.std.proofs.Common.{◌≡◌, length}
use Rattle.rs_glass.specs.Explained.{AreExplained}
use Rattle.rs_glass.proofs.answers.explain_all.Given as goal

abbrev pub invariant-loop-peer : goal.invariant-loop-peer
invariant-loop-peer l = record {
  as_many : length l.peers.items ≡ l.peer;
  explained : AreExplained l.reading.tables l.client l.prefix l.reading.said.items l.peer l.peers.items;
}
