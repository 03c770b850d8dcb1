-- Each answer is one search, so that a wrong body is refused soon.
use Rattle.std.proofs.Common.{rules}
use Rattle.rs_choice.proofs.eligibility.on_exchange.Goals as goal

pub returns-in-None : goal.returns-in-None
returns-in-None c = search

pub returns-then-address-sender_address : goal.returns-then-address-sender_address
returns-then-address-sender_address c = search rules

pub returns-else-address-sender_address : goal.returns-else-address-sender_address
returns-else-address-sender_address c = search rules
