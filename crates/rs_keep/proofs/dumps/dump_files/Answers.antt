use Rattle.std.proofs.Common.{◌≡◌, ◌∙◌, List, ℕ, [], ◌∷◌, ◌++◌, map, take, ap, sym}
use Rattle.std.proofs.lemmas.List.{map-append}
use Rattle.rs_choice.specs.Plan.{Peer, peer_of}
use Rattle.rs_keep.specs.declared.dumps.DumpFile.{DumpFile}
use Rattle.rs_keep.specs.Kept.{dump_name}
use Rattle.rs_keep.specs.Written.{file_name}
use Rattle.rs_keep.proofs.ListingLemmas.{take-one_more}
use Rattle.rs_keep.proofs.dumps.dump_files.Goals as goal

pub loop-client-preserved : goal.loop-client-preserved
loop-client-preserved c =
    let name_for : Peer → List ℕ = λ peer. dump_name peer.name in
    let peers = c.args.plan.now.peers in
    let client = c.loop-client.client in
    let peer = peer_of c.peer.result.now in
    let file : DumpFile = record { name = c.in_ok-format.field-0 } in
    let name : file_name file ≡ name_for peer = c.in_ok-format.ensures.ok ∙ ap dump_name c.as_str-name.ensures.value in
    ap (map file_name) c.in_ok-push.ensures.items
    ∙ map-append file_name c.loop-client.files.items (file ∷ [])
    ∙ ap (λ before. before ++ file_name file ∷ []) c.loop-client.invariant
    ∙ ap (λ name. map name_for (take client peers) ++ name ∷ []) name
    ∙ sym (map-append name_for (take client peers) (peer ∷ []))
    ∙ ap (map name_for) (sym (take-one_more peers client peer c.peer.ensures))
