-- What a search of a sorted list finds is what it lists.
use Rattle.std.proofs.Common.{◌∙◌}
use Rattle.rs_session.proofs.PrefixLemmas.{is_ok-search}
use Rattle.rs_session.proofs.withdrawn.is_listed.Goals as goal

pub returns : goal.returns
returns c = λ up. c.is_ok.ensures.value ∙ is_ok-search c.args.sorted.now c.args.prefix.now c.binary_search.result up
    c.binary_search.ensures.bound c.binary_search.ensures.position
