-- One line more for one client more.
use Rattle.std.proofs.Common.{◌≡◌, ◌∙◌, ◌≤◌, ℕ, ap, arith, get_or, length, string_bytes, sym}
use Rattle.std.specs.Prelude.{slice_get, Some}
use Rattle.std.proofs.lemmas.Option.{get_or_from_slice_get}
use Rattle.rs_choice.specs.Plan.{Plan, peer_of}
use Rattle.rs_table.specs.Table.{table_of}
use Rattle.rs_keep.specs.TableLines.{row_counts}
use Rattle.rs_keep.proofs.KeepLemmas.{length-counts, row_count-at, told-all, told-one_more}
use Rattle.rs_keep.proofs.keeping.add_table_lines.Goals as goal

pub bounds-rows-client : goal.bounds-rows-client
bounds-rows-client c =
    omega (
      arith,
      c.count-client-end.ensures.value,
      ap (λ (of : Plan). length of.peers) c.plan-plan.ensures,
      ap length c.requires,
      length-counts c.args.tables.now,
    )

pub loop-client-preserved : goal.loop-client-preserved
loop-client-preserved c =
    let tables = c.args.tables.now in
    let client = c.loop-client.client in
    let peer = peer_of c.peer.result.now in
    let here : slice_get tables.plan.peers client ≡ Some peer =
    sym (ap (λ (of : Plan). slice_get of.peers client) c.plan-plan.ensures) ∙ c.peer.ensures in
    let counted : (d : ℕ) → get_or c.args.rows.now client d ≡ length (table_of tables client) =
    λ d. ap (λ counts. get_or counts client d) c.requires
    ∙ get_or_from_slice_get (row_counts tables) client (length (table_of tables client)) d (row_count-at tables client peer here) in
    told-one_more tables client _ peer (string_bytes c.args.report.now) (string_bytes c.loop-client.report)
    (string_bytes c.add_table_line.new.report) c.deref.result.now here c.deref.ensures (counted _) c.loop-client.invariant
    c.in_ok-add_table_line.ensures

pub returns : goal.returns
returns c =
    let tables = c.args.tables.now in
    let past : length tables.plan.peers ≤ c.loop-client.client =
    omega (arith, c.count-client-end.ensures.value, ap (λ (of : Plan). length of.peers) c.plan-plan.ensures) in
    told-all tables c.loop-client.client (string_bytes c.args.report.now) (string_bytes c.loop-client.report) past c.loop-client.invariant
