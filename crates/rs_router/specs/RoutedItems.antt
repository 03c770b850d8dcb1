-- The items that a shard is sent.
use Rattle.std.specs.Prelude.{◌==◌, nat_lt, ℕ, Bool, true, false, List, Option, Some, None, if◌then◌else◌}
use Rattle.std.specs.List.{filter_map}
use Rattle.rs_change.specs.Change.{Change, change_of}
use Rattle.rs_router.specs.declared.routed.Routed.{Routed}
use Rattle.rs_router.specs.declared.routed.Routed.TheVariants.{Word, Last}

abbrev pub is_last : Routed → Bool
is_last (Word peer word) = false
is_last Last = true

-- the change in an item, if it is one of this peer
abbrev pub change_from : ℕ → Routed → Option Change
change_from peer (Word sender word) = if sender == peer then Some (change_of word) else None
change_from peer Last = None

-- the changes of a peer among items, in their order
abbrev pub of_peer : ℕ → List Routed → List Change
of_peer peer items = filter_map (change_from peer) items

-- whether the peer of an item has a number below a count
abbrev pub is_known : ℕ → Routed → Bool
is_known peers (Word peer word) = nat_lt peer peers
is_known peers Last = true
