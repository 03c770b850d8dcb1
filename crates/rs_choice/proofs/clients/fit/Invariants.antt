use Rattle.std.proofs.Common.{◌≡◌, ◌≤◌, take, filter, length}
use Rattle.rs_choice.specs.Candidacy.{is_candidate}
use Rattle.rs_choice.specs.Entrants.{chosen_of}
use Rattle.rs_choice.specs.Sharing.{ArePlaces}
use Rattle.rs_choice.proofs.clients.fit.Given as goal

-- of the first routes, the places of those that may be candidates
abbrev pub invariant-loop-place : goal.invariant-loop-place
invariant-loop-place l = record {
  few : length l.fit ≤ l.place;
  places : ArePlaces l.held l.fit;
  fit : chosen_of l.held l.fit ≡ filter (λ held. is_candidate held.candidacy) (take l.place l.held);
}
