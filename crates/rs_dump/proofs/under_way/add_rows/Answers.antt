use Rattle.std.proofs.Common.{◌++◌, ◌∙◌, ◌+◌, [], ap, map, refl, sym}
use Rattle.std.proofs.lemmas.List.{append-nil}
use Rattle.rs_table.specs.RouteView.{row_of}
use Rattle.rs_dump.specs.Dump.{spelled_rows}
use Rattle.rs_dump.proofs.TurnLemmas.{AppendsBeginning-front}
use Rattle.rs_dump.proofs.UnderWayLemmas.{AppendsBeginning-part, IsUnderWay-also, IsUnderWay-more, OnErr-always, OnErr-then, OnOk-then}
use Rattle.rs_dump.proofs.under_way.add_rows.Goals as goal

pub returns-clause-ok : goal.returns-clause-ok
returns-clause-ok g c =
    let taken = g.W.Write.taken in
    let octets = spelled_rows c.args.time c.args.first (map row_of c.args.rows.now) in
    OnOk-then c.add_each.result (IsUnderWay-also (taken c.args.out.now) (taken c.make_room.new.out) (taken c.add_each.new.out)
    c.make_room.new.buffer.items c.add_each.new.buffer.items c.args.buffer.now.items octets c.in_ok-make_room.ensures.ok) c.add_each.ensures.ok

pub returns-clause-ok_failures : goal.returns-clause-ok_failures
returns-clause-ok_failures g c =
    OnOk-then c.add_each.result (λ same. same ∙ c.in_ok-make_room.ensures.ok_failures) c.add_each.ensures.ok_failures

pub returns-clause-err : goal.returns-clause-err
returns-clause-err g c =
    let taken = g.W.Write.taken in
    let old = taken c.args.out.now in
    let mid = taken c.make_room.new.out in
    let octets = spelled_rows c.args.time c.args.first (map row_of c.args.rows.now) in
    let waiting = c.make_room.new.buffer.items in
    let whole = c.args.buffer.now.items ++ octets in
    let more = IsUnderWay-more old mid waiting octets c.args.buffer.now.items c.in_ok-make_room.ensures.ok in
    OnErr-then c.add_each.result (λ part. AppendsBeginning-part old mid (taken c.add_each.new.out) (waiting ++ octets) whole [] whole
    more part (sym (append-nil whole))) c.add_each.ensures.err

pub returns-clause-err_failures : goal.returns-clause-err_failures
returns-clause-err_failures g c =
    OnErr-then c.add_each.result (λ same. same ∙ ap (λ count. count + 1) c.in_ok-make_room.ensures.ok_failures)
    c.add_each.ensures.err_failures

pub returns-in_err-make_room-clause-err : goal.returns-in_err-make_room-clause-err
returns-in_err-make_room-clause-err g c =
    let taken = g.W.Write.taken in
    let octets = spelled_rows c.args.time c.args.first (map row_of c.args.rows.now) in
    let waiting = c.args.buffer.now.items in
    OnErr-always c.from_residual.result (AppendsBeginning-front (taken c.args.out.now) (taken c.make_room.new.out) waiting octets
    (waiting ++ octets) c.in_err-make_room.ensures.err refl)
