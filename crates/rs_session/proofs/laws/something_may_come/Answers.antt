-- Something may come from the source, and it says something.
use Rattle.rs_session.proofs.StageLemmas.{something_comes}
use Rattle.rs_session.proofs.laws.something_may_come.Goals as goal

pub returns : goal.returns
returns g c = something_comes _ _ c.args._session.now (g.met.S.Source.may_come c.args._session.now.source)
