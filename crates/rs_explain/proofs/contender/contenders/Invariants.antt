use Rattle.std.specs.List.{All}
use Rattle.rs_explain.specs.Contenders.{HasOwnAddress}
use Rattle.rs_explain.proofs.ContenderLemmas.{AreBelow, HasBelow}
use Rattle.rs_explain.proofs.contender.contenders.Given as goal

abbrev pub invariant-loop-peer : goal.invariant-loop-peer
invariant-loop-peer l = record {
  listed : AreBelow l.tables l.client l.on.prefix l.peer l.all.items;
  addresses : All (HasOwnAddress l.tables.plan) l.all.items;
  has : HasBelow l.tables l.client l.on.prefix l.peer l.all.items;
}
