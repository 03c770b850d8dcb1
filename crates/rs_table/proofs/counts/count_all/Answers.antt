use Rattle.std.proofs.Common.{◌+◌, refl, sym, arith, subst, List, ℕ, rules}
use Rattle.rs_table.specs.Counts.{AreCounts}
use Rattle.rs_table.proofs.counts.CountLemmas.{counts-more}
use Rattle.rs_table.proofs.counts.count_all.Goals as goal

pub loop-peer-init : goal.loop-peer-init
loop-peer-init c =
    subst (λ (counts : List ℕ). AreCounts c.args.cells.now.entries 0 counts) (sym c.new-counts.ensures.items)
    (record { long = refl; each = λ peer known. absurd (omega (arith, known)) })

pub loop-peer-preserved : goal.loop-peer-preserved
loop-peer-preserved c =
    subst (λ (counts : List ℕ). AreCounts c.args.cells.now.entries (c.loop-peer.peer + 1) counts) (sym c.in_ok-push.ensures.items)
    (counts-more c.args.cells.now.entries c.loop-peer.counts.items c.loop-peer.peer c.count.result c.loop-peer.invariant c.count.ensures)

pub returns : goal.returns
returns c = search rules
