-- One client more: its dump is kept, and the rows of its table are counted. After the last one all is kept.
use Rattle.std.proofs.Common.{◌≡◌, ℕ, ◌+◌, ◌<◌, ◌≤◌, List, ◌++◌, ◌∷◌, [], Option, inl, get_or, length, length-append, take, refl, sym, ap, subst}
use Rattle.std.proofs.Common.{◌∙◌, arith, rules}
use Rattle.std.specs.Vec.Iter.{into_iter_items}
use Rattle.rs_choice.specs.Plan.{Plan}
use Rattle.rs_dump.specs.Dump.{dumped}
use Rattle.rs_table.specs.Table.{table_of}
use Rattle.rs_outlet.specs.Outlet.{KeptDump, Grows}
use Rattle.rs_outlet.specs.Started.{AreSameNames, Names}
use Rattle.rs_keep.specs.Kept.{dumps_of, IsFaultAt}
use Rattle.rs_keep.specs.StartedDumps.{names_from}
use Rattle.rs_keep.specs.TableLines.{row_counts}
use Rattle.rs_keep.specs.Written.{file_name}
use Rattle.rs_keep.proofs.KeepLemmas.{counts-all, kept-one_more, kept-all, peer-at, row_count-at, Grows-none}
use Rattle.rs_keep.proofs.KeepLemmas.{stop-client, stop-memory}
use Rattle.rs_keep.proofs.ListingLemmas.{take-one_more}
use Rattle.rs_keep.proofs.NamesLemmas.{same-names}
use Rattle.rs_keep.proofs.StartedLemmas.{from-first, none-from, none-out, out-back, out-first}
use Rattle.rs_keep.proofs.WrittenLemmas.{file-at, files-count, first-of, none-of, others-of, some-left}
use Rattle.rs_keep.proofs.keeping.keep_all.Goals as goal

pub returns-in_err-rows-clause-fault : goal.returns-in_err-rows-clause-fault
returns-in_err-rows-clause-fault g c =
    stop-memory c.args.dumping.now.tables.now c.args.dumping.now.time _ _ _ _ c.from_residual.result c.from_residual.ensures.1
    (0, Grows-none (g.O.Outlet.kept c.args.outlet.now)) refl

pub returns-in_err-rows-clause-back : goal.returns-in_err-rows-clause-back
returns-in_err-rows-clause-back g c = same-names (g.O.Outlet.started c.args.outlet.now)

pub returns-clause-kept : goal.returns-clause-kept
returns-clause-kept g c =
    let O = g.O.Outlet in
    let tables = c.args.dumping.now.tables.now in
    let past : length tables.plan.peers ≤ c.loop-client.client =
    omega (arith, c.count-client-end.ensures.value, ap (λ (of : Plan). length of.peers) c.plan-plan.ensures) in
    let P : List KeptDump → Type 0 = λ dumps. Grows (O.kept c.args.outlet.now) (O.kept c.loop-client.outlet) dumps in
    subst P (kept-all tables c.args.dumping.now.time c.loop-client.client past) c.loop-client.invariant.kept

pub returns-clause-rows : goal.returns-clause-rows
returns-clause-rows g c =
    let tables = c.args.dumping.now.tables.now in
    let past : length tables.plan.peers ≤ c.loop-client.client =
    omega (arith, c.count-client-end.ensures.value, ap (λ (of : Plan). length of.peers) c.plan-plan.ensures) in
    c.loop-client.invariant.counts ∙ counts-all tables c.loop-client.client past

pub returns-clause-back : goal.returns-clause-back
returns-clause-back g c =
    let O = g.O.Outlet in
    let tables = c.args.dumping.now.tables.now in
    let past : length tables.plan.peers ≤ c.loop-client.client =
    omega (arith, c.count-client-end.ensures.value, ap (λ (of : Plan). length of.peers) c.plan-plan.ensures) in
    let none : length (into_iter_items c.loop-client.written) ≡ 0 = omega (arith, past, c.loop-client.invariant.written.known) in
    none-out g.O.Out.Write.label (O.started c.args.outlet.now) (O.started c.loop-client.outlet) (into_iter_items c.loop-client.written)
    _ none c.loop-client.invariant.started

pub loop-client-init : goal.loop-client-init
loop-client-init g c =
    let O = g.O.Outlet in
    let Out = g.O.Out.Write in
    let kept = O.kept c.args.outlet.now in
    let none : length (into_iter_items c.into_iter-written.result) ≡ 0 = search rules in
    record {
      kept = Grows-none kept;
      failures = refl;
      counts = search rules;
      count = search rules;
      room = search rules;
      written = none-of Out.taken Out.failures c.args.dumping.now.tables.now c.args.dumping.now.time kept 0
          (into_iter_items c.into_iter-written.result) none (omega arith);
      started = none-from Out.label c.args.dumping.now.files.now 0 (O.started c.args.outlet.now)
          (into_iter_items c.into_iter-written.result) none;
    }

pub returns-in_err-refill-clause-fault : goal.returns-in_err-refill-clause-fault
returns-in_err-refill-clause-fault g c =
    let O = g.O.Outlet in
    let time = c.args.dumping.now.time in
    let client = c.loop-client.client in
    let tables = c.args.dumping.now.tables.now in
    let known : client < length tables.plan.peers =
    omega (arith, c.count-client-end.ensures.value, ap (λ (of : Plan). length of.peers) c.plan-plan.ensures) in
    let P : Option (List KeptDump) → Type 0 = λ kept. Grows (O.kept c.args.outlet.now) kept (take client (dumps_of tables time)) in
    let R : ℕ → Type 0 =
    λ before. IsFaultAt client (length (table_of tables client)) before (O.failures c.refill.new.outlet) c.in_err-refill.field-0.0 in
    stop-client tables time client (O.failures c.args.outlet.now) (O.failures c.refill.new.outlet) (O.kept c.args.outlet.now)
    (O.kept c.refill.new.outlet) c.in_err-refill.field-0.0 c.from_residual-in_err-refill.result c.from_residual-in_err-refill.ensures.1
    known (subst P (sym c.refill.ensures.kept) c.loop-client.invariant.kept)
    (subst R c.loop-client.invariant.failures c.in_err-refill.ensures.fault)

pub returns-in_err-refill-clause-back : goal.returns-in_err-refill-clause-back
returns-in_err-refill-clause-back g c =
    let O = g.O.Outlet in
    let refused = c.in_err-refill.ensures.refused in
    let P : Names → Type 0 = λ now. AreSameNames (O.started c.args.outlet.now) now in
    subst P (sym refused.1)
    (none-out g.O.Out.Write.label (O.started c.args.outlet.now) (O.started c.loop-client.outlet) (into_iter_items c.loop-client.written)
    _ refused.0 c.loop-client.invariant.started)

pub keep-requires-clause-named : goal.keep-requires-clause-named
keep-requires-clause-named g c =
    λ _ _.
    let O = g.O.Outlet in
    let Out = g.O.Out.Write in
    let client = c.loop-client.client in
    let tables = c.args.dumping.now.tables.now in
    let files = c.args.dumping.now.files.now in
    let file = c.index-dumping-client.result in
    let name = c.as_str.result.now in
    let written = into_iter_items c.refill.new.written in
    let others = into_iter_items c.next.new.self in
    let known : client < length tables.plan.peers =
    omega (arith, c.count-client-end.ensures.value, ap (λ (of : Plan). length of.peers) c.plan-plan.ensures) in
    let below : client < length files = omega (arith, known, files-count tables.plan files c.requires.files) in
    let is : file ≡ get_or files client file = search rules in
    let named : name ≡ file_name file = c.as_str.ensures.value ∙ ap file_name (sym is) in
    let out = from-first Out.label files client file name (O.started c.args.outlet.now) (O.started c.refill.new.outlet)
    written c.in-Some.writing others c.in-Some.ensures.cases.0 below is named
    (c.in_ok-refill.ensures.started (O.started c.args.outlet.now) c.loop-client.invariant.started) in
    (out-first Out.label (O.started c.args.outlet.now) (O.started c.refill.new.outlet) c.in-Some.writing others name
    (names_from files (client + 1) (length others)) out).0

pub keep-requires-clause-started : goal.keep-requires-clause-started
keep-requires-clause-started g c =
    λ _ _.
    let O = g.O.Outlet in
    let Out = g.O.Out.Write in
    let client = c.loop-client.client in
    let tables = c.args.dumping.now.tables.now in
    let files = c.args.dumping.now.files.now in
    let file = c.index-dumping-client.result in
    let name = c.as_str.result.now in
    let written = into_iter_items c.refill.new.written in
    let others = into_iter_items c.next.new.self in
    let known : client < length tables.plan.peers =
    omega (arith, c.count-client-end.ensures.value, ap (λ (of : Plan). length of.peers) c.plan-plan.ensures) in
    let below : client < length files = omega (arith, known, files-count tables.plan files c.requires.files) in
    let is : file ≡ get_or files client file = search rules in
    let named : name ≡ file_name file = c.as_str.ensures.value ∙ ap file_name (sym is) in
    let out = from-first Out.label files client file name (O.started c.args.outlet.now) (O.started c.refill.new.outlet)
    written c.in-Some.writing others c.in-Some.ensures.cases.0 below is named
    (c.in_ok-refill.ensures.started (O.started c.args.outlet.now) c.loop-client.invariant.started) in
    (out-first Out.label (O.started c.args.outlet.now) (O.started c.refill.new.outlet) c.in-Some.writing others name
    (names_from files (client + 1) (length others)) out).1

pub lose_all-requires-after_bounds : goal.lose_all-requires-after_bounds
lose_all-requires-after_bounds g c =
    λ _ _.
    let O = g.O.Outlet in
    let Out = g.O.Out.Write in
    let client = c.loop-client.client in
    let tables = c.args.dumping.now.tables.now in
    let files = c.args.dumping.now.files.now in
    let file = c.index-dumping-client.result in
    let name = c.as_str.result.now in
    let written = into_iter_items c.refill.new.written in
    let others = into_iter_items c.next.new.self in
    let known : client < length tables.plan.peers =
    omega (arith, c.count-client-end.ensures.value, ap (λ (of : Plan). length of.peers) c.plan-plan.ensures) in
    let below : client < length files = omega (arith, known, files-count tables.plan files c.requires.files) in
    let is : file ≡ get_or files client file = search rules in
    let named : name ≡ file_name file = c.as_str.ensures.value ∙ ap file_name (sym is) in
    let out = from-first Out.label files client file name (O.started c.args.outlet.now) (O.started c.refill.new.outlet)
    written c.in-Some.writing others c.in-Some.ensures.cases.0 below is named
    (c.in_ok-refill.ensures.started (O.started c.args.outlet.now) c.loop-client.invariant.started) in
    let left = out-back Out.label (O.started c.args.outlet.now) (O.started c.refill.new.outlet) (O.started c.keep.new.outlet)
    c.in-Some.writing others name (names_from files (client + 1) (length others)) out c.keep.ensures.back in
    (O.started c.args.outlet.now, names_from files (client + 1) (length others), left)

pub returns-in_default-keep-clause-back : goal.returns-in_default-keep-clause-back
returns-in_default-keep-clause-back g c =
    let O = g.O.Outlet in
    let Out = g.O.Out.Write in
    let client = c.loop-client.client in
    let tables = c.args.dumping.now.tables.now in
    let files = c.args.dumping.now.files.now in
    let file = c.index-dumping-client.result in
    let name = c.as_str.result.now in
    let written = into_iter_items c.refill.new.written in
    let others = into_iter_items c.next.new.self in
    let known : client < length tables.plan.peers =
    omega (arith, c.count-client-end.ensures.value, ap (λ (of : Plan). length of.peers) c.plan-plan.ensures) in
    let below : client < length files = omega (arith, known, files-count tables.plan files c.requires.files) in
    let is : file ≡ get_or files client file = search rules in
    let named : name ≡ file_name file = c.as_str.ensures.value ∙ ap file_name (sym is) in
    let out = from-first Out.label files client file name (O.started c.args.outlet.now) (O.started c.refill.new.outlet)
    written c.in-Some.writing others c.in-Some.ensures.cases.0 below is named
    (c.in_ok-refill.ensures.started (O.started c.args.outlet.now) c.loop-client.invariant.started) in
    let left = out-back Out.label (O.started c.args.outlet.now) (O.started c.refill.new.outlet) (O.started c.keep.new.outlet)
    c.in-Some.writing others name (names_from files (client + 1) (length others)) out c.keep.ensures.back in
    c.lose_all.ensures.back (O.started c.args.outlet.now) (names_from files (client + 1) (length others)) left

pub loop-client-preserved : goal.loop-client-preserved
loop-client-preserved g c =
    let O = g.O.Outlet in
    let Out = g.O.Out.Write in
    let time = c.args.dumping.now.time in
    let client = c.loop-client.client in
    let tables = c.args.dumping.now.tables.now in
    let files = c.args.dumping.now.files.now in
    let file = c.index-dumping-client.result in
    let name = c.as_str.result.now in
    let others = into_iter_items c.next.new.self in
    let left = some-left Out.taken Out.failures tables time (O.kept c.args.outlet.now) (O.kept c.loop-client.outlet)
    (take client (dumps_of tables time)) client (into_iter_items c.loop-client.written) (into_iter_items c.refill.new.written)
    c.in-Some.writing
    others c.loop-client.invariant.kept c.loop-client.invariant.written (λ some. ap into_iter_items (c.refill.ensures.left some))
    (λ none. c.in_ok-refill.ensures.written none) c.in-Some.ensures.cases.0 in
    let written = into_iter_items c.refill.new.written in
    let below : client < length files = omega (arith, left.known, files-count tables.plan files c.requires.files) in
    let is : file ≡ get_or files client file = search rules in
    let named : name ≡ file_name file = c.as_str.ensures.value ∙ ap file_name (sym is) in
    let out = from-first Out.label files client file name (O.started c.args.outlet.now) (O.started c.refill.new.outlet)
    written c.in-Some.writing others c.in-Some.ensures.cases.0 below is named
    (c.in_ok-refill.ensures.started (O.started c.args.outlet.now) c.loop-client.invariant.started) in
    let writing = c.in-Some.writing in
    let count = c.in-Some-keep.count in
    let whole = c.in-Some-keep.ensures.whole in
    let first = first-of Out.taken Out.failures tables time (O.kept c.args.outlet.now) client writing others left in
    let peer = peer-at tables.plan.peers client (omega (arith, left.known)) in
    let rows : count ≡ length (table_of tables client) = c.in-Some-keep.ensures.rows ∙ first.rows whole in
    let P : Option (List KeptDump) → Type 0 = λ kept. Grows (O.kept c.args.outlet.now) kept (take client (dumps_of tables time)) in
    record {
      kept = kept-one_more tables time client peer.0 (O.kept c.args.outlet.now) (O.kept c.refill.new.outlet) (O.kept c.keep.new.outlet) name
          (dumped tables.plan client (table_of tables client) time) (Out.taken writing.out)
          peer.1 (named ∙ file-at tables.plan files client file peer.0 c.requires.files is peer.1) refl
          (subst P (sym c.refill.ensures.kept) c.loop-client.invariant.kept) (first.told whole) c.in-Some-keep.ensures.kept;
      failures = c.in-Some-keep.ensures.no_failure ∙ c.in_ok-refill.ensures.no_failure ∙ c.loop-client.invariant.failures;
      counts = c.in-Ok.ensures.items ∙ ap (λ before. before ++ count ∷ []) c.loop-client.invariant.counts
          ∙ ap (λ last. take client (row_counts tables) ++ last ∷ []) rows
          ∙ sym (take-one_more (row_counts tables) client (length (table_of tables client)) (row_count-at tables client peer.0 peer.1));
      count = omega (
        arith,
        ap length c.in-Ok.ensures.items,
        length-append c.loop-client.rows.items (count ∷ []),
        c.loop-client.invariant.count,
      );
      room = search rules;
      written = others-of Out.taken Out.failures tables time (O.kept c.args.outlet.now) client writing others left;
      started = out-back Out.label (O.started c.args.outlet.now) (O.started c.refill.new.outlet) (O.started c.keep.new.outlet)
          writing others name (names_from files (client + 1) (length others)) out c.keep.ensures.back;
    }

pub keep-requires-clause-failures : goal.keep-requires-clause-failures
keep-requires-clause-failures g c =
    λ _ _. omega (arith, c.requires.failures, c.in_ok-refill.ensures.no_failure, c.loop-client.invariant.failures)

pub returns-in_default-keep-clause-fault : goal.returns-in_default-keep-clause-fault
returns-in_default-keep-clause-fault g c =
    let O = g.O.Outlet in
    let client = c.loop-client.client in
    let tables = c.args.dumping.now.tables.now in
    let known : client < length tables.plan.peers =
    omega (arith, c.count-client-end.ensures.value, ap (λ (of : Plan). length of.peers) c.plan-plan.ensures) in
    let same = c.lose_all.ensures.kept ∙ c.in_default-keep.ensures.refused refl ∙ c.refill.ensures.kept in
    let P : Option (List KeptDump) → Type 0 =
    λ kept. Grows (O.kept c.args.outlet.now) kept (take client (dumps_of tables c.args.dumping.now.time)) in (
      known,
      subst P (sym same) c.loop-client.invariant.kept,
      inl (omega (
        arith,
        c.in_default-keep.ensures.failure refl,
        c.lose_all.ensures.no_fewer,
        c.in_ok-refill.ensures.no_failure,
        c.loop-client.invariant.failures,
      )),
    )

pub returns-clause-no_failure : goal.returns-clause-no_failure
returns-clause-no_failure g c = c.loop-client.invariant.failures
