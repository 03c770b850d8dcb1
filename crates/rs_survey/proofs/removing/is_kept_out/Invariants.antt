use Rattle.std.specs.Prelude.{◌≡◌}
use Rattle.std.proofs.Common.{take}
use Rattle.std.specs.List.{list_any}
use Rattle.rs_survey.specs.Seen.{keeps_out, sent_of_seen}
use Rattle.rs_survey.proofs.removing.is_kept_out.Given as goal

-- whether it is so of one of the routes so far
abbrev pub invariant-loop-other : goal.invariant-loop-other
invariant-loop-other l =
    l.found ≡ list_any (λ other. keeps_out l.plan l.client l.best l.one (sent_of_seen other)) (take l.other-index l.seen)
