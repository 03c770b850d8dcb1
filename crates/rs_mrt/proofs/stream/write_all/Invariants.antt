use Rattle.std.proofs.Common.{◌≡◌, length}
use Rattle.rs_mrt.proofs.stream.StreamLemmas.{Written}
use Rattle.rs_mrt.proofs.stream.write_all.Given as goal

abbrev pub invariant-loop-rest : goal.invariant-loop-rest
invariant-loop-rest g l =
    let W = g.W.Write in
    record {
      written : Written (W.taken l.fn.out) (W.taken l.out) l.piece l.rest;
      failures : W.failures l.out ≡ W.failures l.fn.out;
      label : W.label l.out ≡ W.label l.fn.out;
    }

abbrev pub decreases-loop-rest : goal.decreases-loop-rest
decreases-loop-rest g l = length l.rest
