use Rattle.std.proofs.Common.{◌∙◌}
use Rattle.rs_explain.proofs.BestLemmas.{best_known}
use Rattle.rs_explain.proofs.explanation.Candidates.new.Goals as goal

pub best_contender-requires : goal.best_contender-requires
best_contender-requires c =
    rw c.plan.ensures (best_known c.args.tables.now c.args.client c.args.on.now.prefix c.best.result c.in_ok-all.all.items
    c.in_ok-all.ensures (c.best.ensures ∙ c.requires.routes.bests c.args.client))
