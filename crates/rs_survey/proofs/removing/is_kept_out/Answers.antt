use Rattle.rs_survey.proofs.RemovingLemmas.{never_kept_out}
use Rattle.rs_survey.proofs.removing.is_kept_out.Goals as goal

pub returns-then-one-eq0 : goal.returns-then-one-eq0
returns-then-one-eq0 c = never_kept_out c.args.plan.now c.args.client c.args.best.now c.args.one.now c.args.seen.now c.if-one-eq0.true
