use Rattle.std.proofs.Common.{◌≢◌, ◌<◌, ℕ}
use Rattle.std.specs.Prelude.{IsTrue}
use Rattle.rs_choice.specs.Policy.{is_permitted}
use Rattle.rs_choice.proofs.exchange.Exchange.is_open.Given as goal

-- the first clients may get the route
abbrev pub invariant-loop-client : goal.invariant-loop-client
invariant-loop-client l = (k : ℕ) → k < l.client → k ≢ l.peer → IsTrue (is_permitted l.self k l.peer l.attributes)
