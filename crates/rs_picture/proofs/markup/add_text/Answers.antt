-- The characters that the loop went through are those of the text.
use Rattle.std.proofs.Common.{◌∙◌, ap, sym, ◌++◌, string_bytes}
use Rattle.std.proofs.lemmas.Iterator.{YieldsList-from_chars}
use Rattle.std.proofs.lemmas.Iterator.Consumers.{YieldsList-end}
use Rattle.std.proofs.lemmas.List.{map-id}
use Rattle.std.specs.List.{flat_map}
use Rattle.rs_picture.specs.Markup.{shown}
use Rattle.rs_picture.proofs.markup.add_text.Goals as goal

pub returns : goal.returns
returns c =
    let whole = YieldsList-end (YieldsList-from_chars c.args.text.now c.utf8.text cc)
    c.loop-character.yielded _ c.loop-character.yielded_by _ _ c.in-None.is c.next.ensures.steps in
    c.loop-character.invariant ∙ ap (λ text. string_bytes c.args.markup.now ++ flat_map shown text)
    (sym (map-id c.loop-character.yielded) ∙ whole.0)
