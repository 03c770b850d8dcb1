-- Tests of a plan over its peers as they are configured: their names are texts.
use Rattle.std.specs.Prelude.{◌==◌, ℕ, Bool, List, string_bytes}
use Rattle.std.specs.List.{list_any}
use Rattle.std.specs.Str.{bytes_eq}
use Rattle.rs_choice.specs.declared.plan.PeerSpec.{PeerSpec}

abbrev pub has_name_among : List PeerSpec → List ℕ → Bool
has_name_among peers name = list_any (λ peer. bytes_eq (string_bytes peer.name) name) peers

abbrev pub has_address_among : List PeerSpec → ℕ → Bool
has_address_among peers address = list_any (λ peer. peer.address == address) peers

abbrev pub refuses_spec : PeerSpec → PeerSpec → Bool
refuses_spec client sender =
    list_any (λ name. bytes_eq (string_bytes name) (string_bytes sender.name)) client.refuse_from.items
