-- Each answer is one search, so that a wrong body is refused soon.
use Rattle.std.proofs.Common.{rules}
use Rattle.rs_ring.proofs.sender.Sender.room.Goals as goal

pub returns-clause-room : goal.returns-clause-room
returns-clause-room g c = search

pub invariant_of-self : goal.invariant_of-self
invariant_of-self g c = search rules

pub returns-clause-no_less : goal.returns-clause-no_less
returns-clause-no_less g c = search rules

pub returns-clause-same : goal.returns-clause-same
returns-clause-same g c = search rules
