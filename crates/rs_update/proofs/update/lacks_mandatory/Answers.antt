use Rattle.std.proofs.Common.{◌∙◌, ap, not, rules}
use Rattle.rs_update.proofs.message.MessageLemmas.{announced-missing}
use Rattle.rs_update.proofs.gather.WholeLemmas.{mandatory-found}
use Rattle.rs_update.proofs.update.lacks_mandatory.Goals as goal

pub returns-then-not-is_empty : goal.returns-then-not-is_empty
returns-then-not-is_empty c =
    let found = c.has_mandatory.ensures ∙ mandatory-found c.args.found.now c.args.fields.section.now c.requires in
    ap not found ∙ announced-missing c.args.fields.section.now c.args.fields.nlri.now
    (search (c.is_empty.ensures, c.if-not-is_empty.true, rules))
