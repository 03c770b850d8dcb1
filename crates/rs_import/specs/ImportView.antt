-- Import policy by its fields.
use Rattle.std.specs.Option.{option_map}
use Rattle.rs_import.specs.declared.policy.ImportPolicy.TheInside as policy
use Rattle.rs_import.specs.declared.policy.PeerImport.TheInside as peer
use Rattle.rs_import.specs.Import.{ImportPolicy, PeerImport}

abbrev pub peer_view : peer.Inside → PeerImport
peer_view fields = record {
  is_asked = fields.is_asked;
  prefix_list = option_map (λ set. set.value) fields.prefix_list;
  as_list = option_map (λ set. set.value) fields.as_list;
}

abbrev pub policy_view : policy.Inside → ImportPolicy
policy_view fields = record { rules = fields.rules; peers = fields.peers.items }
