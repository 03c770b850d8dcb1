use Rattle.std.proofs.Common.{rules}
use Rattle.rs_losses.specs.Laws.{IsSought}
use Rattle.rs_losses.proofs.ComesLemmas.{comes-first}
use Rattle.rs_losses.proofs.with_losses.WithLosses.new.Goals as goal

pub returns-clause-comes : goal.returns-clause-comes
returns-clause-comes g c = λ records end come.
    let S = g.S.Source in
    let fits : IsSought c.args.who = search rules in
    comes-first c.args.losses c.args.who S.shows S.comes c.args.source records end fits come
