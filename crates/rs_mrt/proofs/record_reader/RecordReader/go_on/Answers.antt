-- Each goal is answered by one search, so that a wrong body is refused soon.
use Rattle.std.proofs.Common.{rules}
use Rattle.rs_mrt.proofs.record_reader.RecordReader.go_on.Goals as goal

pub invariant_of-self : goal.invariant_of-self
invariant_of-self g c = search rules

pub returns-in-Ok-Some : goal.returns-in-Ok-Some
returns-in-Ok-Some g c = search rules

pub invariant_of-self-2 : goal.invariant_of-self-2
invariant_of-self-2 g c = search rules

pub returns : goal.returns
returns g c = search rules
