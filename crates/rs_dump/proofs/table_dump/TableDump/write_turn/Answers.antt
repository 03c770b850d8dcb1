use Rattle.std.proofs.Common.{◌≡◌, ◌+◌, ◌++◌, ◌<◌, ◌≤◌, ◌∙◌, All, List, ℕ, length, map, refl, ap, subst, sym, arith}
use Rattle.rs_mrt.specs.Stream.{AppendsBeginning}
use Rattle.rs_table.specs.declared.route.Row.{Row}
use Rattle.rs_table.specs.RouteView.{row_of}
use Rattle.rs_dump.specs.Dump.{spelled_rows}
use Rattle.rs_dump.specs.TableDump.{ToWrite}
use Rattle.rs_dump.specs.UnderWay.{IsUnderWay}
use Rattle.rs_table.specs.Table.{TableRow}
use Rattle.rs_dump.proofs.TurnLemmas.{AppendsBeginning-front, IsUnderWay-none, known-later, known-turn, none-later, same-count, some-fewer}
use Rattle.rs_dump.proofs.TurnLemmas.{turn-then-rest}
use Rattle.rs_dump.proofs.UnderWayLemmas.{OnErr-always, IsUnderWay-more}
use Rattle.rs_dump.proofs.table_dump.TableDump.write_turn.Goals as goal

pub invariant_of-self-in_err-add_rows : goal.invariant_of-self-in_err-add_rows
invariant_of-self-in_err-add_rows g c =
    let before = c.self.inside in
    let later = c.take_rows.new.rows in
    let turn = c.take_rows.new.turn.items in
    record {
      numbered = omega (
        arith,
        same-count before.time before.spelled before.rows later turn c.take_rows.ensures.taken,
        c.self.invariant.numbered,
      );
      peers_known = known-later before.time before.spelled before.rows later turn c.take_rows.ensures.taken (λ row. row.route.peer < 65536)
          c.self.invariant.peers_known;
      buffer = c.add_rows.ensures.capacity;
      turn = c.take_rows.ensures.capacity;
    }

pub returns-in_err-add_rows-clause-err : goal.returns-in_err-add_rows-clause-err
returns-in_err-add_rows-clause-err g c =
    let before = c.self.inside in
    let old = g.W.Write.taken c.args.out.now in
    let new = g.W.Write.taken c.add_rows.new.out in
    let later = c.take_rows.new.rows in
    let turn = c.take_rows.new.turn.items in
    let octets = before.buffer.items ++ spelled_rows before.time before.spelled (map row_of turn) in
    let P : List Row → Type 0 =
    λ rows. AppendsBeginning old new (before.buffer.items ++ spelled_rows before.time before.spelled (map row_of rows)) in
    OnErr-always c.from_residual.result (AppendsBeginning-front old new octets
    (spelled_rows before.time (before.spelled + length turn) later) c.args.self.now.octets
    (subst P c.deref.ensures.value c.in_err-add_rows.ensures.err)
    (turn-then-rest before.time before.spelled before.rows later turn c.take_rows.ensures.taken before.buffer.items
    ∙ ap (λ (view : ToWrite). view.octets) c.self.view_is))

pub invariant_of-self-2 : goal.invariant_of-self-2
invariant_of-self-2 g c =
    let before = c.self.inside in
    let later = c.take_rows.new.rows in
    let turn = c.take_rows.new.turn.items in
    record {
      numbered = omega (
        arith,
        same-count before.time before.spelled before.rows later turn c.take_rows.ensures.taken,
        c.self.invariant.numbered,
        c.len.ensures,
      );
      peers_known = known-later before.time before.spelled before.rows later turn c.take_rows.ensures.taken (λ row. row.route.peer < 65536)
          c.self.invariant.peers_known;
      buffer = c.add_rows.ensures.capacity;
      turn = c.take_rows.ensures.capacity;
    }

pub returns-clause-ok : goal.returns-clause-ok
returns-clause-ok g c =
    let before = c.self.inside in
    let old = g.W.Write.taken c.args.out.now in
    let new = g.W.Write.taken c.add_rows.new.out in
    let later = c.take_rows.new.rows in
    let turn = c.take_rows.new.turn.items in
    let waiting = c.add_rows.new.buffer.items in
    let octets = before.buffer.items ++ spelled_rows before.time before.spelled (map row_of turn) in
    let rest = λ (count : ℕ). spelled_rows before.time (before.spelled + count) later in
    let P : List Row → Type 0 =
    λ rows. IsUnderWay old new waiting (before.buffer.items ++ spelled_rows before.time before.spelled (map row_of rows)) in
    let Q : List ℕ → Type 0 = λ whole. IsUnderWay old new (waiting ++ rest (length turn)) whole in
    let R : ℕ → Type 0 = λ count. IsUnderWay old new (waiting ++ rest count) c.args.self.now.octets in
    let count : length turn ≡ c.len.result = omega (arith, c.len.ensures) in
    subst R count (subst Q
    (turn-then-rest before.time before.spelled before.rows later turn c.take_rows.ensures.taken before.buffer.items
    ∙ ap (λ (view : ToWrite). view.octets) c.self.view_is)
    (IsUnderWay-more old new waiting (rest (length turn)) octets (subst P c.deref.ensures.value c.in_ok-add_rows.ensures.ok)))

pub take_rows-requires : goal.take_rows-requires
take_rows-requires g c = c.self.invariant.turn

pub invariant_of-self : goal.invariant_of-self
invariant_of-self g c =
    let before = c.self.inside in
    let later = c.take_rows.new.rows in
    let turn = c.take_rows.new.turn.items in
    record {
      numbered = omega (
        arith,
        same-count before.time before.spelled before.rows later turn c.take_rows.ensures.taken,
        c.self.invariant.numbered,
      );
      peers_known = known-later before.time before.spelled before.rows later turn c.take_rows.ensures.taken (λ row. row.route.peer < 65536)
          c.self.invariant.peers_known;
      buffer = c.self.invariant.buffer;
      turn = c.take_rows.ensures.capacity;
    }

pub returns-then-not-take_rows-clause-ok : goal.returns-then-not-take_rows-clause-ok
returns-then-not-take_rows-clause-ok g c =
    let before = c.self.inside in
    let later = c.take_rows.new.rows in
    let turn = c.take_rows.new.turn.items in
    let none = c.take_rows.ensures.none c.if-not-take_rows.true in
    IsUnderWay-none (g.W.Write.taken c.args.out.now) (before.buffer.items ++ spelled_rows before.time before.spelled later)
    c.args.self.now.octets (ap (λ rows. before.buffer.items ++ spelled_rows before.time before.spelled rows)
    (none-later before.time before.spelled before.rows later turn c.take_rows.ensures.taken none)
    ∙ ap (λ (view : ToWrite). view.octets) c.self.view_is)

pub returns-then-not-take_rows-clause-rows : goal.returns-then-not-take_rows-clause-rows
returns-then-not-take_rows-clause-rows g c =
    let before = c.self.inside in
    let later = c.take_rows.new.rows in
    let turn = c.take_rows.new.turn.items in
    let none = c.take_rows.ensures.none c.if-not-take_rows.true in
    ap (λ (rows : List TableRow). before.spelled + length rows)
    (none-later before.time before.spelled before.rows later turn c.take_rows.ensures.taken none)
    ∙ ap (λ (view : ToWrite). view.spelled + view.rows) c.self.view_is

pub returns-then-not-take_rows-clause-none : goal.returns-then-not-take_rows-clause-none
returns-then-not-take_rows-clause-none g c = λ _.
    let before = c.self.inside in
    let later = c.take_rows.new.rows in
    let turn = c.take_rows.new.turn.items in
    let none = c.take_rows.ensures.none c.if-not-take_rows.true in
    ap (λ (rows : List TableRow). length rows)
    (none-later before.time before.spelled before.rows later turn c.take_rows.ensures.taken none ∙ none)

pub add_rows-requires-clause-peers_known : goal.add_rows-requires-clause-peers_known
add_rows-requires-clause-peers_known g c =
    let before = c.self.inside in
    let later = c.take_rows.new.rows in
    let turn = c.take_rows.new.turn.items in
    let P : List Row → Type 0 = λ rows. All (λ row. row.route.peer < 65536) (map row_of rows) in
    subst P (sym c.deref.ensures.value)
    (known-turn before.time before.spelled before.rows later turn c.take_rows.ensures.taken (λ row. row.route.peer < 65536)
    c.self.invariant.peers_known)

pub add_rows-requires-clause-numbered : goal.add_rows-requires-clause-numbered
add_rows-requires-clause-numbered g c =
    let before = c.self.inside in
    let later = c.take_rows.new.rows in
    let turn = c.take_rows.new.turn.items in
    omega (
      arith,
      same-count before.time before.spelled before.rows later turn c.take_rows.ensures.taken,
      c.self.invariant.numbered,
      ap (λ (rows : List Row). length rows) c.deref.ensures.value,
    )

pub add_rows-requires-clause-capacity : goal.add_rows-requires-clause-capacity
add_rows-requires-clause-capacity g c = c.self.invariant.buffer

pub returns-in_err-add_rows-clause-err_failures : goal.returns-in_err-add_rows-clause-err_failures
returns-in_err-add_rows-clause-err_failures g c =
    OnErr-always c.from_residual.result c.in_err-add_rows.ensures.err_failures

pub overflow_cast-self : goal.overflow_cast-self
overflow_cast-self g c =
    let before = c.self.inside in
    let later = c.take_rows.new.rows in
    let turn = c.take_rows.new.turn.items in
    omega (
      arith,
      same-count before.time before.spelled before.rows later turn c.take_rows.ensures.taken,
      c.self.invariant.numbered,
      c.len.ensures,
    )

pub overflow_add-self : goal.overflow_add-self
overflow_add-self g c =
    let before = c.self.inside in
    let later = c.take_rows.new.rows in
    let turn = c.take_rows.new.turn.items in
    omega (
      arith,
      same-count before.time before.spelled before.rows later turn c.take_rows.ensures.taken,
      c.self.invariant.numbered,
      c.len.ensures,
    )

pub returns-clause-rows : goal.returns-clause-rows
returns-clause-rows g c =
    let before = c.self.inside in
    let later = c.take_rows.new.rows in
    let turn = c.take_rows.new.turn.items in
    omega (
      arith,
      same-count before.time before.spelled before.rows later turn c.take_rows.ensures.taken,
      c.len.ensures,
      ap (λ (view : ToWrite). view.spelled + view.rows) c.self.view_is,
    )

pub returns-clause-some : goal.returns-clause-some
returns-clause-some g c = λ _.
    let before = c.self.inside in
    let later = c.take_rows.new.rows in
    let turn = c.take_rows.new.turn.items in
    omega (
      arith,
      some-fewer before.time before.spelled before.rows later turn c.take_rows.ensures.taken
          (c.take_rows.ensures.some c.if-not-take_rows.false),
      ap (λ (view : ToWrite). view.rows) c.self.view_is,
    )

pub returns-clause-ok_failures : goal.returns-clause-ok_failures
returns-clause-ok_failures g c = c.in_ok-add_rows.ensures.ok_failures
