use Rattle.std.proofs.Common.{◌∙◌, ◌≡◌, ◌<◌, ap, sym, not, None, length, rules}
use Rattle.rs_types.proofs.section.KindLemmas.{none_there}
use Rattle.rs_update.proofs.message.ConcernLemmas.{lacking_closes}
use Rattle.rs_update.proofs.concerns.is_at_fault.Goals as goal

pub returns-then-not-is_empty : goal.returns-then-not-is_empty
returns-then-not-is_empty c =
    let section = c.args.section.now in
    let none : c.find_fault.result ≡ None = none_there c.find_fault.result (sym c.is_some.ensures ∙ c.if-is_some.false) in
    let some : 0 < length c.args.nlri.now = search (c.is_empty.ensures, c.if-not-is_empty.true, rules) in
    ap not c.has_mandatory.ensures ∙ lacking_closes c.find_fault.new.seen section c.args.nlri.now (sym c.find_fault.ensures.fault ∙ none)
    (c.find_fault.ensures.types none) some
