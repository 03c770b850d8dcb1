use Rattle.rs_serve.proofs.ShardPartLemmas.{by_shards}
use Rattle.rs_serve.proofs.part_laws.parts_by_shards.Goals as goal

pub returns : goal.returns
returns c = by_shards c.left_by_last_changes.ensures c.left_by_part.ensures
