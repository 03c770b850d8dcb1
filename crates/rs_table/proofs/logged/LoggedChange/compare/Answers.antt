-- Of two changes the ranks are compared.
use Rattle.std.proofs.Common.{◌∙◌, sym, rules}
use Rattle.rs_table.proofs.logged.RankLemmas.{by_rank}
use Rattle.rs_table.proofs.logged.LoggedChange.compare.Goals as goal

pub returns : goal.returns
returns c =
    (search rules)
    ∙ sym (by_rank c.args.self.now c.args.other.now c.rank.ensures.bounds.0 c.rank.ensures.bounds.1 c.rank-2.ensures.bounds.0
    c.rank-2.ensures.bounds.1)
