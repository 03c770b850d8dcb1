use Rattle.std.proofs.Common.{List, subst, sym, ℕ}
use Rattle.rs_import.specs.Blocks.{AreStarts}
use Rattle.rs_import.proofs.BlockLemmas.{found-block}
use Rattle.rs_import.proofs.blocks.Blocks.block.Goals as goal

pub returns-in-Some-Some : goal.returns-in-Some-Some
returns-in-Some-Some g c =
    let number_of = g.T.Numbered.number_of in
    let items = c.args.items.now in
    let shift = c.args.self.now.shift in
    let told = subst (λ (l : List ℕ). AreStarts number_of items shift l) (sym c.as_slice-starts.ensures.value) c.requires.starts in
    found-block number_of items c.args.number shift c.in-Some-Some.from.now c.in-Some-Some.to.now c.as_slice-starts.result.now told
    c.in-Some-Some.ensures.lookup.0 c.in-Some-Some.ensures.lookup.1 c.in-Some-Some.ensures'.lookup.0 c.in-Some-Some.ensures'.lookup.1
