use Rattle.std.proofs.Common.{◌≡◌, ◌∙◌, ◌+◌, [], ◌∷◌, ◌++◌, map, take, ap, sym, string_bytes, arith}
use Rattle.std.proofs.lemmas.Grind.{common_steps}
use Rattle.std.proofs.lemmas.List.{take_more, map-append}
use Rattle.std.specs.Option.{option_copied}
use Rattle.toml.specs.Data.{string}
use Rattle.toml.specs.View.{items_view, view}
use Rattle.toml.proofs.Views.{items_view-push}
use Rattle.rs_setup.proofs.NoneLemmas.{no_text_at}
use Rattle.rs_setup.proofs.SetupLemmas.{as_str-string, items_of-push}
use Rattle.rs_setup.proofs.values.list_of_texts.Goals as goal

pub loop-value-preserved : goal.loop-value-preserved
loop-value-preserved c =
    let values = c.args.values.now in
    let index = c.loop-value.value-index in
    let value = c.value-item.result in
    let texts = map string_bytes c.loop-value.texts.items in
    let text = string_bytes c.in_ok-from_str.field-0 in
    let more : take (index + 1) values ≡ take index values ++ value ∷ [] =
    take_more values index value c.loop-value-test.true ∙ ap (λ v. take index values ++ v ∷ []) (sym c.value-item.is) in
    let seen : view value ≡ string text = as_str-string (view value) text (rw c.in_ok-from_str.ensures.ok (sym c.in-Some.ensures)) in
    let written : map string_bytes c.push.new.self.items ≡ texts ++ text ∷ [] =
    ap (map string_bytes) c.in_ok-push.ensures.items ∙ map-append string_bytes c.loop-value.texts.items (c.in_ok-from_str.field-0 ∷ [])
    in
    ap items_view more ∙ items_view-push (take index values) value
    ∙ rw (c.loop-value.invariant, seen, written) (sym (items_of-push texts text))

pub returns : goal.returns
returns c = grind (arith, common_steps)

pub returns-in_default-clause-none : goal.returns-in_default-clause-none
returns-in_default-clause-none c =
    no_text_at c.args.values.now c.loop-value.value-index c.value-item.result c.loop-value-test.true c.value-item.is
    (sym c.as_str.ensures ∙ ap option_copied c.in_default.is)
