use Rattle.std.proofs.Common.{◌∷◌, [], ◌++◌, sym, ap, ◌∙◌, append_assoc}
use Rattle.std.proofs.lemmas.List.{append-nil}
use Rattle.rs_types.specs.Parts.{parts_of}
use Rattle.rs_types.specs.Prefix.{prefix_at}
use Rattle.rs_update.proofs.fields.PrefixLemmas.{prefix_at-shrinks, prefixes_more, prefixes_end, listed_all}
use Rattle.rs_update.proofs.prefix_list.read_prefixes.Goals as goal

pub loop-split-smaller : goal.loop-split-smaller
loop-split-smaller c = prefix_at-shrinks c.loop-split.rest.now c.in-Some.split.0 c.in-Some.split.1.now (sym c.in-Some.ensures)

pub loop-split-preserved : goal.loop-split-preserved
loop-split-preserved c =
    let items = c.loop-split.prefixes.items in
    let later = (parts_of prefix_at c.in-Some.split.1.now).0 in
    let more = prefixes_more c.loop-split.rest.now c.in-Some.split.0 c.in-Some.split.1.now c.in-Some.ensures in
    rw c.in_ok-push.ensures.items (append_assoc items (c.in-Some.split.0 ∷ []) later ∙ ap (λ parts. items ++ parts.0) (sym more)
    ∙ c.loop-split.invariant)

pub returns-clause-value : goal.returns-clause-value
returns-clause-value c =
    let items = c.loop-split.prefixes.items in
    let end = prefixes_end c.loop-split.rest.now c.in_default.ensures in
    listed_all c.args.field.now c.args.count items c.requires
    (sym (append-nil items) ∙ ap (λ parts. items ++ parts.0) (sym end) ∙ c.loop-split.invariant)
