-- Refused memory before the first dump, nothing was kept; behind the last one, all was.
use Rattle.std.proofs.Common.{refl}
use Rattle.rs_keep.specs.Kept.{dumps_of, IsStop}
use Rattle.rs_keep.proofs.KeepLemmas.{Grows-none, GrowsByBeginning-all, IfErr-same, stop-memory}
use Rattle.rs_keep.proofs.NamesLemmas.{same-names}
use Rattle.rs_keep.proofs.keeping.keep_dumps.Goals as goal

pub returns-in_err-files-clause-fault : goal.returns-in_err-files-clause-fault
returns-in_err-files-clause-fault g c =
    stop-memory c.args.tables.now c.args.time _ _ _ _ c.from_residual.result c.from_residual.ensures.1
    (0, Grows-none (g.O.Outlet.kept c.args.outlet.now)) refl

pub returns-in_err-files-clause-back : goal.returns-in_err-files-clause-back
returns-in_err-files-clause-back g c = same-names (g.O.Outlet.started c.args.outlet.now)

pub returns-in_err-rows-clause-fault : goal.returns-in_err-rows-clause-fault
returns-in_err-rows-clause-fault g c =
    let O = g.O.Outlet in
    let old = c.args.outlet.now in
    let new = c.keep_all.new.outlet in
    IfErr-same (IsStop c.args.tables.now c.args.time (O.kept old) (O.kept new) (O.failures old) (O.failures new)) c.in_err-rows.field-0.0
    c.from_residual-in_err-rows.result c.from_residual-in_err-rows.ensures.1 c.in_err-rows.ensures.fault

pub returns-in_err-rows-clause-back : goal.returns-in_err-rows-clause-back
returns-in_err-rows-clause-back g c = c.keep_all.ensures.back

pub returns-in_err-add_table_lines-clause-fault : goal.returns-in_err-add_table_lines-clause-fault
returns-in_err-add_table_lines-clause-fault g c =
    let O = g.O.Outlet in
    stop-memory c.args.tables.now c.args.time _ _ _ _ c.from_residual-in_err-add_table_lines.result
    c.from_residual-in_err-add_table_lines.ensures.1
    (GrowsByBeginning-all (O.kept c.args.outlet.now) (O.kept c.keep_all.new.outlet) (dumps_of c.args.tables.now c.args.time)
    c.in_ok-rows.ensures.kept) c.in_ok-rows.ensures.no_failure

pub returns-in_err-add_table_lines-clause-back : goal.returns-in_err-add_table_lines-clause-back
returns-in_err-add_table_lines-clause-back g c = c.keep_all.ensures.back

pub returns-clause-kept : goal.returns-clause-kept
returns-clause-kept g c = c.in_ok-rows.ensures.kept

pub returns-clause-report : goal.returns-clause-report
returns-clause-report g c = c.in_ok-add_table_lines.ensures

pub returns-clause-no_failure : goal.returns-clause-no_failure
returns-clause-no_failure g c = c.in_ok-rows.ensures.no_failure

pub returns-clause-back : goal.returns-clause-back
returns-clause-back g c = c.keep_all.ensures.back
