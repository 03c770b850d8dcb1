use Rattle.std.proofs.Common.{refl}
use Rattle.rs_import_files.proofs.NoneLemmas.{padded, unread}
use Rattle.rs_import_files.proofs.TextLemmas.{number_read}
use Rattle.rs_import_files.proofs.numbers.number.Goals as goal

pub returns-clause-found : goal.returns-clause-found
returns-clause-found c =
    let text = c.args.text.now in
    let bare = rw c.as_bytes.ensures.value at (c.if-is_padded.ensures.no refl) in
    rw c.ok.ensures.value (number_read text c.parse.result bare.0 bare.1 c.parse.ensures.value.0)

pub returns-clause-none : goal.returns-clause-none
returns-clause-none c = rw c.ok.ensures.value (unread c.args.text.now c.parse.result c.parse.ensures.value.0)

pub returns-then-is_padded-clause-none : goal.returns-then-is_padded-clause-none
returns-then-is_padded-clause-none c = padded c.args.text.now (rw c.as_bytes.ensures.value at (c.if-is_padded.ensures.yes refl))
