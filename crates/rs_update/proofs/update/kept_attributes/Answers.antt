use Rattle.std.proofs.Common.{◌∙◌, sym}
use Rattle.rs_update.proofs.treating.HandlingLemmas.{is_kept-keep, nothing_discarded}
use Rattle.rs_update.proofs.update.kept_attributes.Goals as goal

pub find_and_gather-requires-clause-faultless : goal.find_and_gather-requires-clause-faultless
find_and_gather-requires-clause-faultless c =
    let keep = is_kept-keep c.args.handling (sym c.is_keep.ensures ∙ c.if-is_keep.true) in
    (nothing_discarded c.args.section.now (sym c.requires.handled ∙ keep)).1

pub returns-then-is_keep : goal.returns-then-is_keep
returns-then-is_keep c =
    let keep = is_kept-keep c.args.handling (sym c.is_keep.ensures ∙ c.if-is_keep.true) in
    let all = (nothing_discarded c.args.section.now (sym c.requires.handled ∙ keep)).0 in
    rw all c.find_and_gather.ensures
