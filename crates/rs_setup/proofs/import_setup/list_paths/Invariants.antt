use Rattle.std.proofs.Common.{◌≡◌, ◌++◌, map, take, string_bytes, option_map}
use Rattle.std.specs.List.{flat_map}
use Rattle.rs_setup.specs.Import.{path_in, paths_of_peer}
use Rattle.rs_setup.proofs.import_setup.list_paths.Given as goal

-- the paths so far are those of the rules and of the peers so far
abbrev pub invariant-loop-lists : goal.invariant-loop-lists
invariant-loop-lists l =
    map string_bytes l.paths.items
    ≡ path_in (option_map string_bytes l.import.vrps) ++ flat_map paths_of_peer (take l.lists-index l.import.peers.items)
