use Rattle.std.proofs.Common.{◌≡◌}
use Rattle.rs_glass.specs.Histories.{Notes, all_gets, tables_after}
use Rattle.rs_glass.proofs.history.fill_history.Given as goal

abbrev pub invariant-loop-happening : goal.invariant-loop-happening
invariant-loop-happening l = record {
  tables : l.tables ≡ tables_after l.plan.value l.yielded;
  notes : Notes l.fn.asked (all_gets l.plan.value l.fn.asked.client l.fn.asked.prefix l.yielded) l.history;
}
