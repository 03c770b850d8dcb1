-- The characters that the loop went through are those of the text.
use Rattle.std.proofs.Common.{◌∙◌, ap, sym}
use Rattle.std.proofs.lemmas.Iterator.{YieldsList-from_chars}
use Rattle.std.proofs.lemmas.Iterator.Consumers.{YieldsList-end}
use Rattle.std.proofs.lemmas.List.{map-id}
use Rattle.std.specs.List.{flat_map}
use Rattle.rs_host.specs.Line.{shown}
use Rattle.rs_host.proofs.escaped.on_one_line.Goals as goal

pub returns : goal.returns
returns c =
    let whole = YieldsList-end (YieldsList-from_chars c.args.text.now c.utf8.text cc)
    c.loop-character.yielded _ c.loop-character.yielded_by _ _ c.in-None.is c.next.ensures.steps in
    c.loop-character.invariant ∙ ap (flat_map shown) (sym (map-id c.loop-character.yielded) ∙ whole.0)
