-- Each shard's part is what its part leaves.
use Rattle.rs_serve.proofs.RunLemmas.{run-whole}
use Rattle.rs_serve.proofs.laws.run_shards_are_whole.Goals as goal

pub returns : goal.returns
returns c plan received sent charges parts run = run-whole plan received sent charges parts run
