use Rattle.std.proofs.Common.{◌≡◌, ◌∙◌, ◌+◌, [], ◌∷◌, ◌++◌, length, take, sym, ap}
use Rattle.std.proofs.lemmas.List.{length-append, take_more}
use Rattle.toml.specs.Data.{push_item}
use Rattle.toml.specs.View.{items_view, view}
use Rattle.toml.proofs.Views.{items_view-push}
use Rattle.rs_setup.proofs.SetupLemmas.{AreAll-push}
use Rattle.rs_setup.proofs.entries.entries_of.Goals as goal

pub loop-value-preserved : goal.loop-value-preserved
loop-value-preserved g c =
    let values = c.args.values.now in
    let index = c.loop-value.value-index in
    let value = c.value-item.result in
    let entries = c.loop-value.entries.items in
    let more : take (index + 1) values ≡ take index values ++ value ∷ [] =
    take_more values index value c.loop-value-test.true ∙ ap (λ v. take index values ++ v ∷ []) (sym c.value-item.is) in
    let values_grow : items_view (take (index + 1) values) ≡ push_item (items_view (take index values)) (view value) =
    ap items_view more ∙ items_view-push (take index values) value in
    let longer : length c.push.new.self.items ≡ index + 1 =
    ap length c.in_ok-push.ensures.items ∙ length-append entries (c.in-Some.entry ∷ []) ∙ ap (λ n. n + 1) c.loop-value.invariant.1 in (
      rw (values_grow, c.in_ok-push.ensures.items)
          (AreAll-push g.E.Entry.is (items_view (take index values)) entries (view value) c.in-Some.entry c.loop-value.invariant.0 c.in-Some.ensures),
      longer,
    )
