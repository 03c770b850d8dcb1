use Rattle.std.proofs.Common.{◌≡◌, map, take}
use Rattle.rs_keep.specs.Kept.{dump_name}
use Rattle.rs_keep.specs.Written.{file_name}
use Rattle.rs_keep.proofs.dumps.dump_files.Given as goal

-- there are files for the clients so far
abbrev pub invariant-loop-client : goal.invariant-loop-client
invariant-loop-client l = map file_name l.files.items ≡ map (λ peer. dump_name peer.name) (take l.client l.plan.peers)
