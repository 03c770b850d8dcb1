-- Each answer is one search, so that a wrong body is refused soon.
use Rattle.std.proofs.Common.{rules}
use Rattle.rs_patience.proofs.waiting.send_when_room.Goals as goal

pub returns-clause-same : goal.returns-clause-same
returns-clause-same g c = search rules

pub returns-clause-sent : goal.returns-clause-sent
returns-clause-sent g c = search rules
