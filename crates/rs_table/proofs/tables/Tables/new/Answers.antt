use Rattle.std.proofs.Common.{◌∙◌, true, subst, sym, inr, rules, length, get_or, arith, ◌≡◌, ◌<◌, ℕ}
use Rattle.std.specs.FinMap as fin
use Rattle.rs_types.specs.PrefixOrder.{prefix_cmp}
use Rattle.rs_table.specs.Left.{RouteLeft}
use Rattle.rs_table.specs.Cells.{Entries, AreCells, AreKeptCells}
use Rattle.rs_table.specs.Counts.{AreCounts}
use Rattle.rs_table.proofs.cells.CellsLemmas.{length-ribs}
use Rattle.rs_table.proofs.tables.TablesLemmas.{empty-ribs}
use Rattle.rs_table.proofs.tables.Tables.new.Goals as goal

pub returns-clause-empty : goal.returns-clause-empty
returns-clause-empty c = λ peer. empty-ribs c.new-cells.result.entries c.new-cells.ensures.empty c.resize.new.self.items (search rules) peer

pub returns-clause-count : goal.returns-clause-count
returns-clause-count c =
    length-ribs c.new-cells.result.entries 0 c.resize.new.self.items ∙ search rules

pub invariant_of-result : goal.invariant_of-result
invariant_of-result c =
    let plan = c.args.plan.value in
    let counts = c.resize-2.new.self.items in
    let long : length counts ≡ length plan.peers = search rules in
    let zeros : (peer : ℕ) → peer < length counts → get_or counts peer 0 ≡ 0 = search rules in
    record {
      peers = search rules;
      cells = subst (AreCells plan) (sym c.new-cells.ensures.empty) tt;
      open_or_not = inr (record {
        room = subst (AreKeptCells true plan) (sym c.new-cells.ensures.empty) tt;
        counted = subst (λ (entries : Entries). AreCounts entries (length plan.peers) counts) (sym c.new-cells.ensures.empty)
            (record {
              long = long;
              each = λ peer known. zeros peer (omega (arith, known, long)) ∙ sym (fin.len-empty prefix_cmp RouteLeft);
            });
      });
    }

pub returns-clause-plan : goal.returns-clause-plan
returns-clause-plan g c = search rules
