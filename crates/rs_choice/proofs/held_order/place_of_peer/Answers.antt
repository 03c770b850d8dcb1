use Rattle.std.proofs.Common.{rules}
use Rattle.std.specs.Prelude.{nat_lt}
use Rattle.std.proofs.lemmas.Bool.{ltb-false, ltb-true}
use Rattle.std.proofs.lemmas.List.Sorted.{IsPartitionPoint-from_clause, IsPartitionedBy-ltb}
use Rattle.rs_choice.specs.declared.held_route.HeldRoute.{HeldRoute}
use Rattle.rs_choice.proofs.held_route.OrderLemmas.{parts_at, rising}
use Rattle.rs_choice.proofs.held_order.place_of_peer.Goals as goal

pub returns-then-is_at-clause-place : goal.returns-then-is_at-clause-place
returns-then-is_at-clause-place c = λ up. parts_at c.args.held.now c.args.peer c.args.peer up (c.is_at.ensures.0 c.if-is_at.true)

pub returns-clause-place : goal.returns-clause-place
returns-clause-place c = λ up.
    let held = c.args.held.now in
    let peer = c.args.peer in
    let parted = IsPartitionPoint-from_clause (λ (one : HeldRoute). nat_lt one.peer peer)
    held c.partition_point.result c.partition_point.ensures.partitioned
    (IsPartitionedBy-ltb (λ (one : HeldRoute). one.peer) held peer (rising held up)) (λ a r f called. search rules) in
    (λ k one low below. ltb-true _ _ (parted.0 k one low below), λ k one above within. ltb-false _ _ (parted.1 k one above within))
