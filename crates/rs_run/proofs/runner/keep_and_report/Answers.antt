-- Refused memory before the first dump, nothing was kept.
use Rattle.std.proofs.Common.{refl, subst}
use Rattle.rs_table.specs.Content.{TablesContent}
use Rattle.rs_keep.specs.Kept.{IsStop}
use Rattle.rs_keep.proofs.KeepLemmas.{Grows-none, IfErr-same, stop-memory}
use Rattle.rs_keep.proofs.NamesLemmas.{same-names}
use Rattle.rs_run.proofs.runner.keep_and_report.Goals as goal

pub returns-in_err-text-clause-fault : goal.returns-in_err-text-clause-fault
returns-in_err-text-clause-fault g c =
    stop-memory c.args.served.now.tables c.args.time _ _ _ _ c.from_residual.result c.from_residual.ensures.1
    (0, Grows-none (g.O.Outlet.kept c.args.outlet.now)) refl

pub returns-in_err-add_peer_lines-clause-fault : goal.returns-in_err-add_peer_lines-clause-fault
returns-in_err-add_peer_lines-clause-fault g c =
    stop-memory c.args.served.now.tables c.args.time _ _ _ _ c.from_residual-in_err-add_peer_lines.result
    c.from_residual-in_err-add_peer_lines.ensures.1 (0, Grows-none (g.O.Outlet.kept c.args.outlet.now)) refl

pub returns-in_err-text-clause-back : goal.returns-in_err-text-clause-back
returns-in_err-text-clause-back g c = same-names (g.O.Outlet.started c.args.outlet.now)

pub returns-in_err-add_peer_lines-clause-back : goal.returns-in_err-add_peer_lines-clause-back
returns-in_err-add_peer_lines-clause-back g c = same-names (g.O.Outlet.started c.args.outlet.now)

pub returns-in_err-keep_dumps-clause-fault : goal.returns-in_err-keep_dumps-clause-fault
returns-in_err-keep_dumps-clause-fault g c =
    let O = g.O.Outlet in
    let old = c.args.outlet.now in
    let new = c.keep_dumps.new.outlet in
    let fault = c.in_err-keep_dumps.field-0.0 in
    let stops = λ (held : TablesContent). IsStop held c.args.time (O.kept old) (O.kept new) (O.failures old) (O.failures new) in
    let P : TablesContent → Type 0 = λ held. stops held fault in
    IfErr-same (stops c.args.served.now.tables) fault c.from_residual-in_err-keep_dumps.result
    c.from_residual-in_err-keep_dumps.ensures.1 (subst P c.tables.ensures c.in_err-keep_dumps.ensures.fault)
