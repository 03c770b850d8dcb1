use Rattle.std.proofs.Common.{◌≤◌, length, take}
use Rattle.rs_choice.specs.Clients.{candidates_among}
use Rattle.rs_choice.specs.Entrants.{chosen_of}
use Rattle.rs_choice.specs.Held.{AreCandidates}
use Rattle.rs_choice.specs.Sharing.{sents_at, ArePlaces}
use Rattle.rs_choice.proofs.clients.ContenderLemmas.{ChooseSame, HasLast}
use Rattle.rs_choice.proofs.exchange.Exchange.contenders.Given as goal

-- of the routes at the first places, the places of those among which the choice is that among the candidates
abbrev pub invariant-loop-number : goal.invariant-loop-number
invariant-loop-number l = record {
  few : length l.contenders ≤ l.number;
  places : ArePlaces l.held l.contenders;
  fit : AreCandidates (chosen_of l.held l.contenders);
  has_last : HasLast l.self (sents_at l.held l.contenders) l.last;
  same : ChooseSame l.self (sents_at l.held l.contenders)
      (candidates_among l.self l.client (sents_at l.held (take l.number l.places)));
}
