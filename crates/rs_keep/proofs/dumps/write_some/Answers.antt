use Rattle.std.proofs.Common.{◌≡◌, ◌∙◌, ◌<◌, ◌+◌, List, [], ◌∷◌, ◌++◌, Option, ap, rules, arith, drop, length, refl, ℕ, slice_index_or, subst, sym}
use Rattle.std.proofs.lemmas.List.{take_at}
use Rattle.rs_dump.specs.SideBySide.{CanBegin}
use Rattle.rs_dump.specs.declared.side_by_side.Writing.{Writing}
use Rattle.rs_outlet.specs.Outlet.{KeptDump}
use Rattle.rs_outlet.specs.declared.run_fault.RunFault.TheVariants.{Memory}
use Rattle.rs_table.specs.Table.{table_of}
use Rattle.rs_keep.specs.Kept.{IsFaultAt}
use Rattle.rs_keep.specs.StartedDumps.{AreOutFrom}
use Rattle.rs_keep.specs.Written.{AreBegun, AreWritten}
use Rattle.rs_keep.proofs.StartedLemmas.{stay-from}
use Rattle.rs_keep.proofs.KeepLemmas.{IfErr-same, OnErr-always}
use Rattle.rs_keep.proofs.WrittenLemmas.{can-begin, one-begun, written-of}
use Rattle.rs_keep.proofs.dumps.write_some.Goals as goal

pub returns-clause-written : goal.returns-clause-written
returns-clause-written g c =
    let Out = g.O.Out.Write in
    let kept = g.O.Outlet.kept c.args.outlet.now in
    let tables = c.args.dumping.now.tables.now in
    let time = c.args.dumping.now.time in
    let client = c.args.client in
    let begun = c.deref_mut.result.now in
    let new = c.write_side_by_side.new.writings in
    let P : List (Writing g.row.O-Out.Denot) → Type 0 = λ some. AreWritten Out.taken Out.failures kept tables time client some in
    let count : length new ≡ length c.begin_behind.new.some.items =
    c.write_side_by_side.ensures.count ∙ ap length c.deref_mut.ensures.value in
    let Q : List (Writing g.row.O-Out.Denot) → Type 0 = λ some. AreBegun Out.taken Out.failures kept tables time client some in
    let R : Option (List KeptDump) → Type 0 =
    λ kept. AreBegun Out.taken Out.failures kept tables time client c.begin_behind.new.some.items in
    let all : AreBegun Out.taken Out.failures kept tables time client begun =
    subst Q (sym c.deref_mut.ensures.value) (subst R c.in_ok-first.ensures.kept c.begin_behind.ensures.begun) in
    subst P (sym (take_at new (drop (length new) c.begin_behind.new.some.items) c.begin_behind.new.some.len (omega (arith, count))))
    record {
      each = λ k d below.
          let within : k < length begun = omega (arith, below, count, ap length c.deref_mut.ensures.value) in
          written-of Out.taken Out.failures tables time Out.label kept (client + k) (slice_index_or begun k d) (slice_index_or new k d)
          (all k d within) (c.write_side_by_side.ensures.written k d within);
      known = omega (arith, count, c.begin_behind.ensures.some.1, c.most_at_once-most.ensures.known);
    }

pub returns-clause-started : goal.returns-clause-started
returns-clause-started g c =
    let O = g.O.Outlet in
    let label = g.O.Out.Write.label in
    let files = c.args.dumping.now.files.now in
    let client = c.args.client in
    let old = O.started c.args.outlet.now in
    let now = O.started c.begin_behind.new.outlet in
    let behind = c.begin_behind.new.some.items in
    let begun = c.deref_mut.result.now in
    let new = c.write_side_by_side.new.writings in
    let count : length new ≡ length behind = c.write_side_by_side.ensures.count ∙ ap length c.deref_mut.ensures.value in
    let none : c.in_ok-some.some.items ≡ [] = search rules in
    let P : List (Writing g.row.O-Out.Denot) → Type 0 = λ some. AreOutFrom label files client old now some in
    let Q : List (Writing g.row.O-Out.Denot) → Type 0 = λ some. AreOutFrom label files client old (O.started c.begin.new.outlet) some in
    let first : AreOutFrom label files client old (O.started c.begin.new.outlet) c.push.new.self.items =
    subst Q (sym (c.in-Ok.ensures.items ∙ ap (λ (none : List (Writing g.row.O-Out.Denot)). none ++ c.in_ok-first.first ∷ []) none))
    c.in_ok-first.ensures.started in
    let all : AreOutFrom label files client old now begun =
    subst P (sym c.deref_mut.ensures.value) (c.begin_behind.ensures.started old first) in
    subst P (sym (take_at new (drop (length new) behind) c.begin_behind.new.some.len (omega (arith, count))))
    (stay-from label files client old now begun new c.write_side_by_side.ensures.count
    (λ k d below. (c.write_side_by_side.ensures.written k d below).label_stays) all)

pub returns-in_err-some-clause-fault : goal.returns-in_err-some-clause-fault
returns-in_err-some-clause-fault g c =
    let failures = g.O.Outlet.failures c.args.outlet.now in
    let rows = length (table_of c.args.dumping.now.tables.now c.args.client) in
    IfErr-same (IsFaultAt c.args.client rows failures failures) Memory c.from_residual.result c.from_residual.ensures.1 refl

pub returns-in_err-first-clause-refused : goal.returns-in_err-first-clause-refused
returns-in_err-first-clause-refused g c = OnErr-always c.from_residual-in_err-first.result c.in_err-first.ensures.refused

pub returns-in_err-first-clause-fault : goal.returns-in_err-first-clause-fault
returns-in_err-first-clause-fault g c =
    let O = g.O.Outlet in
    let rows = length (table_of c.args.dumping.now.tables.now c.args.client) in
    IfErr-same (IsFaultAt c.args.client rows (O.failures c.args.outlet.now) (O.failures c.begin.new.outlet)) c.in_err-first.field-0.0
    c.from_residual-in_err-first.result c.from_residual-in_err-first.ensures.1 c.in_err-first.ensures.fault

pub begin_behind-requires-clause-begun : goal.begin_behind-requires-clause-begun
begin_behind-requires-clause-begun g c =
    λ _ _.
    let Out = g.O.Out.Write in
    let O = g.O.Outlet in
    let tables = c.args.dumping.now.tables.now in
    let time = c.args.dumping.now.time in
    let none : c.in_ok-some.some.items ≡ [] = search rules in
    let first = c.in-Ok.ensures.items ∙ ap (λ (none : List (Writing g.row.O-Out.Denot)). none ++ c.in_ok-first.first ∷ []) none in
    let P : Option (List KeptDump) → Type 0 =
    λ kept. AreBegun Out.taken Out.failures kept tables time c.args.client c.push.new.self.items in
    subst P (sym c.begin.ensures.kept)
    (one-begun Out.taken Out.failures tables time (O.kept c.args.outlet.now) c.args.client c.in_ok-first.first c.push.new.self.items
    first c.in_ok-first.ensures.begun)

pub write_side_by_side-requires-after_bounds : goal.write_side_by_side-requires-after_bounds
write_side_by_side-requires-after_bounds g c =
    λ _ _.
    let Out = g.O.Out.Write in
    let some = c.begin_behind.new.some.items in
    let P : List (Writing g.row.O-Out.Denot) → Type 0 =
    λ all. (k : ℕ) (d : Writing g.row.O-Out.Denot) → k < length all → CanBegin Out.failures (slice_index_or all k d) in
    subst P (sym c.deref_mut.ensures.value)
    (can-begin Out.taken Out.failures c.args.dumping.now.tables.now c.args.dumping.now.time (g.O.Outlet.kept c.begin.new.outlet)
    c.args.client some c.begin_behind.ensures.begun)

pub returns-clause-some : goal.returns-clause-some
returns-clause-some g c =
    let new = c.write_side_by_side.new.writings in
    let behind = c.begin_behind.new.some.items in
    let count : length new ≡ length behind = c.write_side_by_side.ensures.count ∙ ap length c.deref_mut.ensures.value in
    let P : List (Writing g.row.O-Out.Denot) → Type 0 = λ some. 0 < length some in
    subst P (sym (take_at new (drop (length new) behind) c.begin_behind.new.some.len (omega (arith, count))))
    (omega (arith, count, c.begin_behind.ensures.some.0))

pub returns-clause-kept : goal.returns-clause-kept
returns-clause-kept g c = c.begin_behind.ensures.kept ∙ c.begin.ensures.kept

pub returns-clause-no_failure : goal.returns-clause-no_failure
returns-clause-no_failure g c = c.begin_behind.ensures.no_failure ∙ c.in_ok-first.ensures.no_failure
