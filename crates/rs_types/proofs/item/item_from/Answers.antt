use Rattle.std.proofs.Common.{sym, arith}
use Rattle.rs_types.proofs.section.PlaceLemmas.{item_from-past}
use Rattle.rs_types.proofs.item.item_from.Goals as goal

pub returns-then-section-place : goal.returns-then-section-place
returns-then-section-place c =
    sym (item_from-past c.args.section.now c.args.place (omega (arith, c.if-section-place.true, c.from-place.ensures)))
