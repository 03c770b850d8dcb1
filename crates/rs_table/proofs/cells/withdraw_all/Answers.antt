use Rattle.std.proofs.Common.{rules, true, subst, sym, ap, ◌∷◌}
use Rattle.rs_table.specs.Cell.{IsKeptCell, IsKeptCellOn}
use Rattle.rs_table.specs.Cells.{AreKeptCells}
use Rattle.rs_table.proofs.cell.HeldLemmas.{taken-without}
use Rattle.rs_table.proofs.cells.CloseLemmas.{left-each, left-routes, folds_same, member-each, front-each}
use Rattle.rs_table.proofs.cells.withdraw_all.Goals as goal

pub retain-requires : goal.retain-requires
retain-requires c = record {
  at = λ before after f' k v split folds.
      let all = subst (AreKeptCells true c.args.plan.now) split c.requires in
      let one : IsKeptCellOn true c.args.plan.now k v = member-each (IsKeptCellOn true c.args.plan.now) before after k v all in
      let same = folds_same _ (IsKeptCellOn true c.args.plan.now) c.args.peer _ (λ k v b w f' is t. search (taken-without, rules)) before f'
      (front-each (IsKeptCellOn true c.args.plan.now) before ((k, v) ∷ after) all) folds in
      λ p q is_key is_value.
      let cell : IsKeptCell true c.args.plan.now q.now = subst (IsKeptCell true c.args.plan.now) (sym is_value) one.is_kept in
      let still : IsKeptCell true f'.0.now q.now = subst (λ plan. IsKeptCell true plan q.now) (sym (ap (λ g. g.0.now) same)) cell in
      search rules;
}

pub returns-clause-routes : goal.returns-clause-routes
returns-clause-routes c =
    left-routes _ (IsKeptCellOn true c.args.plan.now) c.args.peer _ (λ k v b w f' is t. search (taken-without, rules))
    c.args.cells.now.entries c.retain.new.self.entries c.requires c.retain.ensures.was_ordered c.retain.ensures.filtered

pub returns-clause-cells : goal.returns-clause-cells
returns-clause-cells c =
    left-each _ (IsKeptCellOn true c.args.plan.now) c.args.peer _ (λ k v b w f' is t. search (taken-without, rules))
    c.args.cells.now.entries c.retain.new.self.entries c.requires c.retain.ensures.filtered
