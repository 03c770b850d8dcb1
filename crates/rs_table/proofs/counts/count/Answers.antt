use Rattle.std.proofs.Common.{◌∙◌, sym, rules, tests}
use Rattle.std.specs.BTreeMap.{values}
use Rattle.std.proofs.lemmas.Iterator.Consumers.{YieldsList-from_filter, YieldsList-from_rest, count_from_yields_List}
use Rattle.std.proofs.lemmas.List.Sums.{length-filter}
use Rattle.rs_table.proofs.counts.CountLemmas.{has_route, count-cells}
use Rattle.rs_table.proofs.counts.count.Goals as goal

pub returns : goal.returns
returns c =
    let cells = values c.args.cells.now in
    count_from_yields_List c.filter.result _ c.count.ensures.ran
    (YieldsList-from_filter _ (has_route c.args.peer) (YieldsList-from_rest cells (c.filter.ensures.source ∙ c.values.ensures.rest))
    c.filter.ensures.closure
    (λ x b q k. search (rules, tests)))
    ∙ length-filter (has_route c.args.peer) cells
    ∙ sym (count-cells c.args.peer c.args.cells.now.entries c.values.ensures.ordered)
