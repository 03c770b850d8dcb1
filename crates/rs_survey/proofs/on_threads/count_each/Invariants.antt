use Rattle.std.specs.Prelude.{map}
use Rattle.std.proofs.Common.{take}
use Rattle.std.specs.List.{flat_map}
use Rattle.rs_survey.specs.Grows.{Grows}
use Rattle.rs_survey.specs.Counted.{counted_on}
use Rattle.rs_survey.proofs.on_threads.count_each.Given as goal

-- what is on the prefixes so far is counted
abbrev pub invariant-loop-on : goal.invariant-loop-on
invariant-loop-on l =
    Grows l.initial.tally l.tally (flat_map (counted_on l.tables l.what) (map (λ on. on.prefix) (take l.on-index l.some)))
