use Rattle.std.proofs.Common.{◌≡◌, map, take}
use Rattle.rs_choice.specs.Checks.{refuses_spec}
use Rattle.rs_choice.proofs.exchange.refusals.Given as goal

abbrev pub invariant-loop-client : goal.invariant-loop-client
invariant-loop-client l =
    map (λ row. row.items) l.rows.items ≡ map (λ client. map (refuses_spec client) l.peers) (take l.client-index l.peers)
