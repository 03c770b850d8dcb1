use Rattle.std.proofs.Common.{◌≡◌, ◌<◌, Some, None, false, length, arith}
use Rattle.std.specs.Prelude.{is_err}
use Rattle.std.specs.Option.{option_map}
use Rattle.std.proofs.lemmas.Grind.{common_steps}
use Rattle.std.proofs.lemmas.Result.{err_from_is_err_and}
use Rattle.rs_update.specs.Message.{announced_attributes, withdrawn_field, section_field, nlri_field}
use Rattle.rs_types.specs.Prefix.{prefixes_of}
use Rattle.rs_types.specs.Section.{section_fault}
use Rattle.rs_update.proofs.message.RoomLemmas.{update_lists}
use Rattle.rs_update.proofs.update.read_update.Goals as goal

pub returns-in_err-attributes : goal.returns-in_err-attributes
returns-in_err-attributes c =
    let body = c.args.body.now in
    let fields = c.in_ok-fields.ensures in
    let withdrawn : option_map length (prefixes_of (withdrawn_field body)) ≡ Some c.in_ok-withdrawn_count.withdrawn_count =
    grind (arith, common_steps) in
    let nlri : option_map length (prefixes_of (nlri_field body)) ≡ Some c.in_ok-nlri_count.nlri_count = grind (arith, common_steps) in
    let octets : 0 < length (nlri_field body) = rw fields.nlri at c.in_err-attributes.ensures.memory in
    let section : section_fault (section_field body) ≡ None = grind (arith, common_steps) in
    let there : is_err (announced_attributes (section_field body) (nlri_field body)) ≡ false = grind (arith, common_steps) in
    let from = c.from_residual-in_err-attributes in
    let p = err_from_is_err_and from.result from.ensures.1 in
    rw (p.1, p.2) (update_lists body c.in_ok-withdrawn_count.withdrawn_count c.in_ok-nlri_count.nlri_count withdrawn nlri octets
    fields.lengths section there)
