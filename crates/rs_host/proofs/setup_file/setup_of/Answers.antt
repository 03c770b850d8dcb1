use Rattle.std.proofs.Common.{◌∙◌, sym, string_bytes}
use Rattle.std.proofs.lemmas.List.{length-map}
use Rattle.rs_host.proofs.setup_file.setup_of.Goals as goal

pub returns-in-Ok : goal.returns-in-Ok
returns-in-Ok g c =
    let set_up = c.in-Ok.ensures.setup in
    sym (length-map c.in-Ok.setup.files.items (λ path. string_bytes path))
    ∙ c.a_configuration_has_a_file_for_each_peer.ensures set_up.0 _ _ set_up.2.0
