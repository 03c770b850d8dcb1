use Rattle.std.proofs.Common.{◌∙◌, sym, ap, List, ℕ, ◌++◌, ◌∷◌, []}
use Rattle.rs_types.specs.Numbers.{numbers_at}
use Rattle.rs_types.proofs.fields.OctetLemmas.{numbers_at-more}
use Rattle.rs_types.proofs.number_list.read_numbers.Goals as goal

pub loop-place-init : goal.loop-place-init
unfolding numbers_at
loop-place-init c = c.in_ok-numbers.ensures.items

pub loop-place-preserved : goal.loop-place-preserved
loop-place-preserved c =
    c.in_ok-push.ensures.items
    ∙ ap (λ (numbers : List ℕ). numbers ++ c.number_at.result ∷ []) c.loop-place.invariant
    ∙ ap (λ (number : ℕ). numbers_at c.loop-place.place c.args.octets.now ++ number ∷ []) c.number_at.ensures
    ∙ sym (numbers_at-more c.loop-place.place c.args.octets.now)
