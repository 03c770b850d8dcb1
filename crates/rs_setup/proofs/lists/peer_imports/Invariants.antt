use Rattle.std.proofs.Common.{take}
use Rattle.std.specs.List.{AllZip}
use Rattle.rs_setup.specs.Known.{AreAllKnown}
use Rattle.rs_setup.specs.Lists.{IsPeerImport}
use Rattle.rs_setup.proofs.lists.peer_imports.Given as goal

-- the peers so far are asked by their lists, and each list that is known is that of its file
abbrev pub invariant-loop-lists : goal.invariant-loop-lists
invariant-loop-lists g l =
    AllZip (IsPeerImport (g.L.ListFiles.holds l.files)) (take l.lists-index l.peers) l.imports.items
    × AreAllKnown (g.L.ListFiles.holds l.files) l.known
