use Rattle.std.proofs.Common.{List, ℕ, ◌++◌, sym, subst}
use Rattle.rs_mrt.specs.Record.{record_spelling}
use Rattle.rs_table.specs.RouteView.{row_of}
use Rattle.rs_dump.specs.Dump.{row_record}
use Rattle.rs_dump.specs.UnderWay.{IsUnderWay}
use Rattle.rs_dump.proofs.UnderWayLemmas.{IsUnderWay-more}
use Rattle.rs_dump.proofs.under_way.add_row.Goals as goal

pub returns-clause-ok : goal.returns-clause-ok
returns-clause-ok g c =
    let old = g.W.Write.taken c.args.out.now in
    let new = g.W.Write.taken c.make_room.new.out in
    let waiting = c.args.buffer.now.items in
    let octets = record_spelling (row_record c.args.time (c.args.sequence, row_of c.args.row.now)) in
    let P : List ℕ → Type 0 = λ later. IsUnderWay old new later (waiting ++ octets) in
    subst P (sym c.spell_row.ensures.items) (IsUnderWay-more old new c.make_room.new.buffer.items octets waiting
    c.in_ok-make_room.ensures.ok)
