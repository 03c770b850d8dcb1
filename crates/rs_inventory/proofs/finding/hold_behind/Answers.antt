-- The condition is true, and the message is all that stands behind the fields.
use Rattle.std.proofs.Common.{◌≡◌, ◌∙◌, ◌-◌, ap, arith, drop, length, length-drop, sym, take, take_all}
use Rattle.rs_inventory.specs.Finding.{hold_of}
use Rattle.rs_inventory.proofs.finding.hold_behind.Goals as goal

pub returns-then-is_ipv4_message : goal.returns-then-is_ipv4_message
returns-then-is_ipv4_message c =
    let fields = c.args.fields.now in
    let whole : take (length fields - 16) (drop 16 fields) ≡ drop 16 fields =
    take_all (length fields - 16) (drop 16 fields) (omega (arith, length-drop 16 fields)) in
    rw (sym c.is_ipv4_message.ensures.value ∙ c.if-is_ipv4_message.true) (c.hold_of.ensures ∙ ap hold_of whole)
