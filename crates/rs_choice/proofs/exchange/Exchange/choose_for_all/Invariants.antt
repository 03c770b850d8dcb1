use Rattle.std.proofs.Common.{◌≡◌, ◌<◌, ℕ, length}
use Rattle.std.specs.Prelude.{slice_index_or}
use Rattle.rs_choice.specs.Clients.{best_peer_for}
use Rattle.rs_choice.specs.Held.{taken_in}
use Rattle.rs_choice.proofs.exchange.Exchange.choose_for_all.Given as goal

-- the first clients are decided
abbrev pub invariant-loop-client : goal.invariant-loop-client
invariant-loop-client l = record {
  count : length l.bests ≡ length l.self.peers;
  best : (k : ℕ) → k < l.client → slice_index_or l.bests k 0 ≡ best_peer_for l.self k (taken_in l.held);
}
