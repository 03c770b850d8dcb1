use Rattle.std.proofs.Common.{◌+◌, ◌++◌, ◌<◌, ◌≤◌, ◌∙◌, List, ℕ, length, map, take, drop, ap, sym, subst, arith, append_assoc}
use Rattle.std.proofs.Math.ListN.{get_or-map}
use Rattle.std.proofs.lemmas.List.{length-map}
use Rattle.rs_mrt.specs.Record.{record_spelling}
use Rattle.rs_table.specs.declared.route.Row.{Row}
use Rattle.rs_table.specs.RouteView.{row_of}
use Rattle.rs_table.specs.Table.{TableRow}
use Rattle.rs_dump.specs.Dump.{row_record, spelled_rows}
use Rattle.rs_dump.specs.UnderWay.{IsUnderWay}
use Rattle.rs_dump.proofs.DumpLemmas.{spelled-next, spelled-cut}
use Rattle.rs_dump.proofs.UnderWayLemmas.{OnErr-always, IsUnderWay-also, AppendsBeginning-part}
use Rattle.rs_dump.proofs.under_way.add_each.Goals as goal

pub add_row-requires-clause-peer_known : goal.add_row-requires-clause-peer_known
add_row-requires-clause-peer_known g c =
    let rows = c.args.rows.now in
    let place = c.loop-place.place in
    let row = c.index-rows-place.result in
    let within : place < length (map row_of rows) = omega (arith, length-map rows row_of) in
    let P : TableRow → Type 0 = λ row. row.route.peer < 65536 in
    let Q : Row → Type 0 = λ row. row.route.peer < 65536 in
    subst Q (sym c.index-rows-place.is) (subst P (get_or-map row_of rows place row) (c.requires.peers_known place (row_of row) within))

pub returns-in_err-add_row-clause-err : goal.returns-in_err-add_row-clause-err
returns-in_err-add_row-clause-err g c =
    let taken = g.W.Write.taken in
    let rows = c.args.rows.now in
    let place = c.loop-place.place in
    let time = c.args.time in
    let first = c.args.first in
    let waited = c.args.buffer.now.items in
    let before = spelled_rows time first (map row_of (take place rows)) in
    let rest = spelled_rows time (first + place) (map row_of (drop place rows)) in
    let within : place ≤ length rows = omega arith in
    OnErr-always c.from_residual.result (AppendsBeginning-part (taken c.args.out.now) (taken c.loop-place.out) (taken c.add_row.new.out)
    c.loop-place.buffer.items (waited ++ before) rest
    (waited ++ spelled_rows time first (map row_of rows)) c.loop-place.invariant.under_way c.in_err-add_row.ensures.err
    (ap (λ octets. waited ++ octets) (spelled-cut time first rows place within) ∙ sym (append_assoc waited before rest)))

pub loop-place-preserved : goal.loop-place-preserved
loop-place-preserved g c =
    let taken = g.W.Write.taken in
    let old = taken c.args.out.now in
    let new = taken c.add_row.new.out in
    let rows = c.args.rows.now in
    let place = c.loop-place.place in
    let row = c.index-rows-place.result in
    let time = c.args.time in
    let first = c.args.first in
    let waited = c.args.buffer.now.items in
    let within : place < length rows = omega arith in
    let before = spelled_rows time first (map row_of (take place rows)) in
    let more = record_spelling (row_record time (first + place, row_of row)) in
    let sent = IsUnderWay-also old (taken c.loop-place.out) new c.loop-place.buffer.items c.add_row.new.buffer.items (waited ++ before)
    more c.loop-place.invariant.under_way c.in_ok-add_row.ensures.ok in
    let P : List ℕ → Type 0 = λ octets. IsUnderWay old new c.add_row.new.buffer.items octets in
    record {
      under_way = subst P (append_assoc waited before more
          ∙ ap (λ octets. waited ++ octets) (sym (spelled-next time first rows place row within c.index-rows-place.is))) sent;
      failures = c.in_ok-add_row.ensures.ok_failures ∙ c.loop-place.invariant.failures;
      label = c.add_row.ensures.label ∙ c.loop-place.invariant.label;
      capacity = c.add_row.ensures.capacity;
    }
