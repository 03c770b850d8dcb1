-- Each answer is one search, so that a wrong body is refused soon.
use Rattle.std.proofs.Common.{rules}
use Rattle.rs_ring.proofs.maker.ring.Goals as goal

pub returns-clause-capacity : goal.returns-clause-capacity
returns-clause-capacity g c = search rules

pub returns-clause-memory : goal.returns-clause-memory
returns-clause-memory g c = search rules

pub returns-clause-pair : goal.returns-clause-pair
returns-clause-pair g c = search rules

pub returns-clause-receiver : goal.returns-clause-receiver
returns-clause-receiver g c = search rules

pub returns-clause-sender : goal.returns-clause-sender
returns-clause-sender g c = search rules

pub returns-in_err-producer-clause-capacity : goal.returns-in_err-producer-clause-capacity
returns-in_err-producer-clause-capacity g c = search rules

pub returns-in_err-producer-clause-memory : goal.returns-in_err-producer-clause-memory
returns-in_err-producer-clause-memory g c = search rules

pub returns-in_err-producer-clause-pair : goal.returns-in_err-producer-clause-pair
returns-in_err-producer-clause-pair g c = search rules

pub returns-in_err-producer-clause-receiver : goal.returns-in_err-producer-clause-receiver
returns-in_err-producer-clause-receiver g c = search rules

pub returns-in_err-producer-clause-sender : goal.returns-in_err-producer-clause-sender
returns-in_err-producer-clause-sender g c = search rules

pub returns-then-not-contains-clause-capacity : goal.returns-then-not-contains-clause-capacity
returns-then-not-contains-clause-capacity g c = search rules

pub returns-then-not-contains-clause-memory : goal.returns-then-not-contains-clause-memory
returns-then-not-contains-clause-memory g c = search rules

pub returns-then-not-contains-clause-pair : goal.returns-then-not-contains-clause-pair
returns-then-not-contains-clause-pair g c = search rules

pub returns-then-not-contains-clause-receiver : goal.returns-then-not-contains-clause-receiver
returns-then-not-contains-clause-receiver g c = search rules

pub returns-then-not-contains-clause-sender : goal.returns-then-not-contains-clause-sender
returns-then-not-contains-clause-sender g c = search rules
