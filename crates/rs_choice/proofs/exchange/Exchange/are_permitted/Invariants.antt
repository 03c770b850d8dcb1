use Rattle.std.proofs.Common.{take}
use Rattle.std.specs.List.{All}
use Rattle.std.specs.Prelude.{IsTrue}
use Rattle.rs_choice.specs.Clients.{is_sent_to}
use Rattle.rs_choice.specs.Sharing.{sents_at}
use Rattle.rs_choice.proofs.exchange.Exchange.are_permitted.Given as goal

-- the first routes are permitted
abbrev pub invariant-loop-number : goal.invariant-loop-number
invariant-loop-number l = All (λ sent. IsTrue (is_sent_to l.self l.client sent)) (sents_at l.held (take l.number l.places))
