use Rattle.std.proofs.Common.{rules}
use Rattle.std.specs.Prelude.{nat_le}
use Rattle.std.proofs.lemmas.List.Sorted.{IsPartitionPoint-from_clause, IsPartitionedBy-leb}
use Rattle.rs_import.proofs.BlockLemmas.{counted-behind, counted-up_to, rising-slice}
use Rattle.rs_import.proofs.blocks.Blocks.count_up_to.Goals as goal

pub returns-clause-up_to : goal.returns-clause-up_to
returns-clause-up_to g c =
    let number_of = g.T.Numbered.number_of in
    let number = c.args.number in
    let items = c.args.items.now in
    let from = c.block-from.result.from in
    let to = c.block-from.result.to in
    let parted = IsPartitionPoint-from_clause (λ item. nat_le (number_of item) number) _ c.partition_point.result c.partition_point.ensures.partitioned
    (IsPartitionedBy-leb number_of _ number (rising-slice number_of items from to c.requires.rising)) (λ a r f called. search rules) in
    counted-up_to number_of items number from to c.partition_point.result c.block-from.ensures parted c.partition_point.ensures.bound

pub returns-clause-behind : goal.returns-clause-behind
returns-clause-behind g c =
    let number_of = g.T.Numbered.number_of in
    let number = c.args.number in
    let items = c.args.items.now in
    let from = c.block-from.result.from in
    let to = c.block-from.result.to in
    let parted = IsPartitionPoint-from_clause (λ item. nat_le (number_of item) number) _ c.partition_point.result c.partition_point.ensures.partitioned
    (IsPartitionedBy-leb number_of _ number (rising-slice number_of items from to c.requires.rising)) (λ a r f called. search rules) in
    counted-behind number_of items number from to c.partition_point.result c.block-from.ensures parted c.partition_point.ensures.bound
