-- Lists without entries leave nothing.
use Rattle.std.proofs.Common.{◌≡◌, ◌∙◌, ap, sym, length, rules}
use Rattle.rs_table.specs.Content.{RibContent}
use Rattle.rs_table.specs.Gathered.{routes_gathered}
use Rattle.rs_table.proofs.cells.CellsLemmas.{by-length}
use Rattle.rs_table.proofs.gathering.GatheringLemmas.{empty-held, empty-logs}
use Rattle.rs_table.proofs.gathering.Gathering.new.Goals as goal

pub returns-clause-empty : goal.returns-clause-empty
returns-clause-empty c = λ peer.
    empty-held c.resize.new.self.items c.in_ok-logs.logs.items c.in_ok-logs.ensures.1 c.into_peers-plan.result.0.value
    c.into_peers-plan.result.1.items
    (λ p. c.into_peers-plan.ensures.closed p ∙ ap (λ (rib : RibContent). rib.closed) (c.requires p)) peer

pub returns-clause-count : goal.returns-clause-count
returns-clause-count c =
    by-length (routes_gathered c.resize.new.self.items c.in_ok-logs.logs.items) 0 c.into_peers-plan.result.1.items
    ∙ c.into_peers-plan.ensures.count

pub invariant_of-result : goal.invariant_of-result
invariant_of-result c =
    let peers : length c.into_peers-plan.result.1.items ≡ length c.into_peers-plan.result.0.value.peers =
    c.into_peers-plan.ensures.peers ∙ sym (ap (λ plan. length plan.peers) c.into_peers-plan.ensures.plan) in
    let counted : length c.resize.new.self.items ≡ length c.into_peers-plan.result.1.items = search rules in
    record {
      peers = peers;
      losses = counted ∙ peers;
      logs = empty-logs c.resize.new.self.items c.in_ok-logs.logs.items c.in_ok-logs.ensures.1 c.in_ok-logs.ensures.0;
    }
