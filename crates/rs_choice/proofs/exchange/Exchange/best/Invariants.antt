use Rattle.rs_choice.specs.Scan.{IsBest}
use Rattle.rs_choice.proofs.exchange.Exchange.best.Given as goal

abbrev pub invariant-loop-place : goal.invariant-loop-place
invariant-loop-place l = IsBest l.self l.candidates l.place l.best
