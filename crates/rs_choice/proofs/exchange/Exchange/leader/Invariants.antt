use Rattle.rs_choice.specs.Scan.{IsLeader}
use Rattle.rs_choice.proofs.exchange.Exchange.leader.Given as goal

abbrev pub invariant-loop-candidate : goal.invariant-loop-candidate
invariant-loop-candidate l = IsLeader l.self l.candidates l.candidate-index l.leader
