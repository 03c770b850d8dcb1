use Rattle.std.proofs.Common.{take}
use Rattle.std.specs.List.{filter_map}
use Rattle.rs_survey.specs.Grows.{Grows}
use Rattle.rs_survey.specs.MissingCounts.{counted_of}
use Rattle.rs_survey.proofs.missing_counts.count_routes.Given as goal

-- the routes so far are counted
abbrev pub invariant-loop-one : goal.invariant-loop-one
invariant-loop-one l = Grows l.initial.tally l.tally (filter_map counted_of (take l.one-index l.routes))
