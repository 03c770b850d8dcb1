use Rattle.std.proofs.Common.{◌≡◌, ◌∙◌, ◌+◌, [], ◌∷◌, ◌++◌, take, sym, ap}
use Rattle.std.proofs.lemmas.List.{take_more}
use Rattle.rs_setup.specs.Lists.{IsPeerImport}
use Rattle.rs_setup.proofs.SetupLemmas.{AllZip-push}
use Rattle.rs_setup.proofs.lists.peer_imports.Goals as goal

pub loop-lists-preserved : goal.loop-lists-preserved
loop-lists-preserved g c =
    let peers = c.args.peers.now in
    let index = c.loop-lists.lists-index in
    let lists = c.lists-item.result in
    let more : take (index + 1) peers ≡ take index peers ++ lists ∷ [] =
    take_more peers index lists c.loop-lists-test.true ∙ ap (λ one. take index peers ++ one ∷ []) (sym c.lists-item.is) in (
      rw (more, c.in_ok-push.ensures.items)
          (AllZip-push (IsPeerImport (g.L.ListFiles.holds c.args.files.now)) (take index peers) c.loop-lists.imports.items lists
          c.in_ok-peer_import.field-0 c.loop-lists.invariant.0 c.in_ok-peer_import.ensures.import),
      c.in_ok-peer_import.ensures.known,
    )
