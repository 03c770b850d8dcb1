use Rattle.std.proofs.Common.{codes}
use Rattle.rs_import_files.proofs.NoneLemmas.{behind_lower, behind_upper}
use Rattle.rs_import_files.proofs.TextLemmas.{behind_title}
use Rattle.rs_import_files.proofs.numbers.without_title.Goals as goal

pub returns-in-Some : goal.returns-in-Some
returns-in-Some c = λ asn.
    behind_upper c.args.text.now c.in-Some.digits.now asn
    (behind_title c.args.text.now (codes "AS") c.in-Some.digits.now c.in-Some.ensures.cases)

pub returns-in-Some-strip_prefix : goal.returns-in-Some-strip_prefix
returns-in-Some-strip_prefix c = λ asn.
    behind_lower c.args.text.now c.in-Some-strip_prefix.digits.now asn
    (behind_title c.args.text.now (codes "as") c.in-Some-strip_prefix.digits.now c.in-Some-strip_prefix.ensures.cases)
