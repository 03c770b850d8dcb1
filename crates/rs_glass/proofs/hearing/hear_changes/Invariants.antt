use Rattle.std.proofs.Common.{◌+◌}
use Rattle.std.specs.Prelude.{if◌then◌else◌}
use Rattle.rs_session.specs.Stage.{fresh, most_changes}
use Rattle.rs_glass.proofs.ReadingLemmas.{IsReading}
use Rattle.rs_glass.proofs.hearing.hear_changes.Given as goal

abbrev pub invariant-loop-routes : goal.invariant-loop-routes
invariant-loop-routes g l =
    IsReading g.S.Source.comes g.S.Source.shows (fresh l.fn.source l.fn.id l.question.errors)
    l.question.prefix l.session l.routes l.said

-- the changes that may still come before the close, and the close
abbrev pub decreases-loop-routes : goal.decreases-loop-routes
decreases-loop-routes g l = most_changes g.S.Source.room g.S.Source.shows l.session + (if l.session.closed then 0 else 1)
