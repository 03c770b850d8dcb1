use Rattle.std.proofs.Common.{map, take, string_bytes}
use Rattle.rs_choice.specs.Plan.{peer_of}
use Rattle.toml.specs.View.{items_view}
use Rattle.rs_setup.specs.Import.{AreLists}
use Rattle.rs_setup.specs.Setup.{ArePeers, IsBegin, texts_in}
use Rattle.rs_setup.specs.Values.{AreAll}
use Rattle.rs_setup.proofs.peers.read_list.Given as goal

-- the values so far are the peers, their files and their lists so far
abbrev pub invariant-loop-number : goal.invariant-loop-number
invariant-loop-number l =
    ArePeers (items_view (take l.number l.values)) (map peer_of l.peers.specs.items) (map string_bytes l.peers.files.items)
    × AreAll IsBegin (items_view (take l.number l.values)) (map texts_in l.peers.begins.items)
    × AreAll AreLists (items_view (take l.number l.values)) l.peers.lists.items
