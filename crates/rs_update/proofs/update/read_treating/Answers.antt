use Rattle.std.proofs.Common.{◌≡◌, ◌<◌, Some, None, length, arith}
use Rattle.std.specs.Option.{option_map}
use Rattle.std.proofs.lemmas.Grind.{common_steps}
use Rattle.std.proofs.lemmas.Result.{err_from_is_err_and}
use Rattle.rs_update.specs.Handling.{strongest_in}
use Rattle.rs_update.specs.Message.{withdrawn_field, section_field, nlri_field}
use Rattle.rs_types.specs.Prefix.{prefixes_of}
use Rattle.rs_update.specs.Treating.{reset_of}
use Rattle.rs_update.proofs.message.RoomLemmas.{treating_update_lists}
use Rattle.rs_update.proofs.update.read_treating.Goals as goal

pub returns-in_err-standing : goal.returns-in_err-standing
returns-in_err-standing c =
    let body = c.args.body.now in
    let fields = c.in_ok-fields.ensures in
    let withdrawn : option_map length (prefixes_of (withdrawn_field body)) ≡ Some c.in_ok-withdrawn_count.withdrawn_count =
    grind (arith, common_steps) in
    let nlri : option_map length (prefixes_of (nlri_field body)) ≡ Some c.in_ok-nlri_count.nlri_count = grind (arith, common_steps) in
    let octets : 0 < length (nlri_field body) = rw fields.nlri at c.in_err-standing.ensures.memory in
    let reset : reset_of (strongest_in (section_field body)) ≡ None = grind (arith, common_steps) in
    let from = c.from_residual-in_err-standing in
    let p = err_from_is_err_and from.result from.ensures.1 in
    rw (p.1, p.2) (treating_update_lists body c.in_ok-withdrawn_count.withdrawn_count c.in_ok-nlri_count.nlri_count withdrawn nlri octets
    fields.lengths reset)
