use Rattle.std.proofs.Common.{◌≡◌, ◌∙◌, ◌+◌, [], ◌∷◌, ◌++◌, take, sym, ap, arith}
use Rattle.std.proofs.lemmas.Grind.{common_steps}
use Rattle.std.proofs.lemmas.List.{take_more}
use Rattle.toml.specs.Data.{push_item}
use Rattle.toml.specs.View.{items_view, view}
use Rattle.toml.proofs.Views.{items_view-push}
use Rattle.rs_setup.proofs.SetupLemmas.{added}
use Rattle.rs_setup.proofs.peers.read_list.Goals as goal

pub loop-number-preserved : goal.loop-number-preserved
loop-number-preserved c =
    let values = c.args.values.now in
    let number = c.loop-number.number in
    let value = c.index-values-number.result in
    let more : take (number + 1) values ≡ take number values ++ value ∷ [] =
    take_more values number value c.loop-number-test.true ∙ ap (λ one. take number values ++ one ∷ []) (sym c.index-values-number.is) in
    let values_grow : items_view (take (number + 1) values) ≡ push_item (items_view (take number values)) (view value) =
    ap items_view more ∙ items_view-push (take number values) value in
    rw values_grow (added (items_view (take number values)) c.loop-number.peers c.add_peer.new.peers (view value) c.loop-number.invariant
    c.in_ok-add_peer.ensures)

pub returns : goal.returns
returns c = grind (arith, common_steps)
