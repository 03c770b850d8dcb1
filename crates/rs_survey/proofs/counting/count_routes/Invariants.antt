use Rattle.std.specs.Prelude.{map}
use Rattle.std.proofs.Common.{take}
use Rattle.std.specs.List.{flat_map}
use Rattle.rs_survey.specs.Grows.{Grows}
use Rattle.rs_survey.specs.Seen.{sent_of_seen}
use Rattle.rs_survey.specs.Summary.{of_route}
use Rattle.rs_survey.proofs.counting.count_routes.Given as goal

-- what is found of the routes so far is counted
abbrev pub invariant-loop-one : goal.invariant-loop-one
invariant-loop-one l = Grows l.initial.tally l.tally (flat_map (of_route l.plan l.prefix) (map sent_of_seen (take l.one-index l.seen)))
