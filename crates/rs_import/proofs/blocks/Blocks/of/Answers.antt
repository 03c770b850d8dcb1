use Rattle.std.proofs.Common.{arith}
use Rattle.rs_import.proofs.BlockLemmas.{starts-none}
use Rattle.rs_import.proofs.blocks.Blocks.of.Goals as goal

pub returns-in_default : goal.returns-in_default
returns-in_default g c =
    starts-none g.T.Numbered.number_of c.args.items.now c.none.result.shift c.none.result.starts.items (omega (arith, c.none.ensures.shift)) c.none.ensures.starts
