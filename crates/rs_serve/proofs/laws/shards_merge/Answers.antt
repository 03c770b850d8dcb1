-- The parts are of different prefixes, and together they have each one.
use Rattle.rs_serve.proofs.MergingLemmas.{parts-pairs, merged-whole}
use Rattle.rs_serve.proofs.laws.shards_merge.Goals as goal

pub returns : goal.returns
returns c plan received parts are = (
  parts-pairs c.parts_by_shards.ensures plan received parts are,
  λ merged is count. merged-whole c.parts_by_shards.ensures plan received parts are merged is count,
)
