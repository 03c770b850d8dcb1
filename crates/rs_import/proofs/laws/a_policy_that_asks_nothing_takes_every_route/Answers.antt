use Rattle.std.proofs.Common.{refl}
use Rattle.rs_import.proofs.PathLemmas.{len-taken, path-holds_none}
use Rattle.rs_import.proofs.laws.a_policy_that_asks_nothing_takes_every_route.Goals as goal

pub returns-clause-rules : goal.returns-clause-rules
returns-clause-rules c = λ own_as sender_as q attributes short. rw (len-taken q.len short, path-holds_none attributes.path) refl
