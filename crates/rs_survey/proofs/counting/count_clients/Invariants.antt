use Rattle.std.specs.Prelude.{map}
use Rattle.std.specs.List.{flat_map, range_with_len}
use Rattle.rs_survey.specs.Grows.{Grows}
use Rattle.rs_survey.specs.Seen.{sent_of_seen}
use Rattle.rs_survey.specs.Summary.{for_client}
use Rattle.rs_survey.proofs.counting.count_clients.Given as goal

-- what is found for the clients so far is counted
abbrev pub invariant-loop-client : goal.invariant-loop-client
invariant-loop-client l =
    Grows l.initial.tally l.tally
    (flat_map (for_client l.tables.plan (map sent_of_seen l.seen)) (range_with_len 0 l.client))
