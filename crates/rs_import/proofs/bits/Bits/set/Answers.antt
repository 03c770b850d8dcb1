use Rattle.std.proofs.Common.{◌∙◌, ◌/◌}
use Rattle.std.proofs.lemmas.List.{get_or_default}
use Rattle.rs_import.proofs.BitLemmas.{set-bit}
use Rattle.rs_import.proofs.bits.Bits.set.Goals as goal

pub returns-clause-bits : goal.returns-clause-bits
returns-clause-bits c =
    set-bit c.args.self.now.words.items c.args.number c.index_mut-word.result.now c.requires
    (c.index_mut-word.ensures.value ∙ get_or_default c.args.self.now.words.items (c.args.number / 64) c.index_mut-word.result.now 0 c.requires)
