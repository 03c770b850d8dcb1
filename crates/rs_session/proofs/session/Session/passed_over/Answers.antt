-- Only a closed session has no change to come, and it counts no more.
use Rattle.std.proofs.Common.{◌∙◌, ap}
use Rattle.rs_session.specs.Stage.{Stage}
use Rattle.rs_session.proofs.StageLemmas.{passed-over}
use Rattle.rs_session.proofs.session.Session.passed_over.Goals as goal

pub returns-clause-in_the_end : goal.returns-clause-in_the_end
returns-clause-in_the_end g c = λ passed may.
    ap (λ (stage : Stage g.row.S.Denot). stage.passed) c.self.view_is ∙ passed-over _ _ c.args.self.now passed may
