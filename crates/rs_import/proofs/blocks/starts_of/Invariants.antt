use Rattle.std.proofs.Common.{◌≡◌, length}
use Rattle.rs_import.specs.Blocks.{AreStarts}
use Rattle.rs_import.proofs.blocks.starts_of.Given as goal

-- each block so far has its start
abbrev pub invariant-loop-block : goal.invariant-loop-block
invariant-loop-block g l =
    (length l.starts.items ≡ l.block-counter) × AreStarts g.T.Numbered.number_of l.items l.shift l.starts.items
