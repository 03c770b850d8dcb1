use Rattle.std.proofs.Common.{take}
use Rattle.std.specs.List.{Contains}
use Rattle.rs_choice.specs.Decision.{remaining}
use Rattle.rs_explain.specs.Contenders.{standing_in}
use Rattle.rs_explain.proofs.removal.removed_by.Given as goal

-- the candidate reaches the next step
abbrev pub invariant-loop-step : goal.invariant-loop-step
invariant-loop-step l = Contains (remaining standing_in (take l.step-index l.steps) l.set) l.loser
