-- Writers are out for the dumps that were written anew.
use Rattle.std.proofs.Common.{◌≡◌, List, length, rules, subst, sym}
use Rattle.std.specs.Vec.Iter.{into_iter_items}
use Rattle.rs_dump.specs.declared.side_by_side.Writing.{Writing}
use Rattle.rs_keep.specs.StartedDumps.{AreOutFrom}
use Rattle.rs_table.specs.Table.{table_of}
use Rattle.rs_keep.specs.Kept.{IsFaultAt}
use Rattle.rs_keep.proofs.KeepLemmas.{IfErr-same}
use Rattle.rs_keep.proofs.StartedLemmas.{refilled-from}
use Rattle.rs_keep.proofs.dumps.refill.Goals as goal

pub returns-in_ok-more-clause-started : goal.returns-in_ok-more-clause-started
returns-in_ok-more-clause-started g c = λ before out.
    let O = g.O.Outlet in
    let label = g.O.Out.Write.label in
    let files = c.args.dumping.now.files.now in
    let client = c.args.client in
    let old = into_iter_items c.args.written.now in
    let new = into_iter_items c.into_iter.result in
    let none : length old ≡ 0 = search rules in
    let same : new ≡ c.in_ok-more.more.items = search rules in
    let P : List (Writing g.row.O-Out.Denot) → Type 0 =
    λ some. AreOutFrom label files client (O.started c.args.outlet.now) (O.started c.write_some.new.outlet) some in
    refilled-from label files client before (O.started c.args.outlet.now) (O.started c.write_some.new.outlet) old new none out
    (subst P (sym same) c.in_ok-more.ensures.started)

pub returns-in_err-more-clause-fault : goal.returns-in_err-more-clause-fault
returns-in_err-more-clause-fault g c =
    let O = g.O.Outlet in
    let rows = length (table_of c.args.dumping.now.tables.now c.args.client) in
    IfErr-same (IsFaultAt c.args.client rows (O.failures c.args.outlet.now) (O.failures c.write_some.new.outlet)) c.in_err-more.field-0.0
    c.from_residual.result c.from_residual.ensures.1 c.in_err-more.ensures.fault
