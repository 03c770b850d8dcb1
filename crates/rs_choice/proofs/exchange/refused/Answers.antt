use Rattle.std.proofs.Common.{◌≡◌, sym, subst, map, Bool, rules}
use Rattle.std.specs.Prelude.{IfOk}
use Rattle.std.specs.List.{list_any}
use Rattle.std.proofs.lemmas.Iterator.{items_from_collect, YieldsList-from_map, YieldsList-from_slice}
use Rattle.rs_choice.specs.declared.plan.PeerSpec.{PeerSpec}
use Rattle.rs_choice.specs.Checks.{refuses_spec}
use Rattle.rs_choice.proofs.plan.PolicyLemmas.{refused_of-map}
use Rattle.rs_choice.proofs.exchange.refused.Goals as goal

pub returns : goal.returns
returns c =
    let peers = c.args.peers.now in
    let answer : PeerSpec → Bool = λ sender. list_any (λ client. refuses_spec client sender) peers in
    let made : IfOk c.collect.result (λ row. row.items ≡ map answer peers) =
    items_from_collect c.collect.result c.collect.ensures.ran
    (YieldsList-from_map _ answer {f = c.map.result.f}
    (YieldsList-from_slice peers (search rules)) (search rules) (search rules)) in
    subst (λ said. IfOk c.collect.result (λ row. row.items ≡ said)) (sym (refused_of-map peers)) made
