use Rattle.std.proofs.Common.{◌≡◌, ◌∙◌, false, sym, ap, arith, rules}
use Rattle.std.specs.FinMap as fin
use Rattle.rs_change.specs.Change.{change_of}
use Rattle.rs_table.specs.Counts.{announces, route_count}
use Rattle.rs_table.proofs.counts.CountLemmas.{nothing-changes}
use Rattle.rs_table.proofs.tables.TablesLemmas.{routes-own}
use Rattle.rs_table.proofs.counts.change_and_count.Goals as goal

pub returns-then-not-announces-clause-routes : goal.returns-then-not-announces-clause-routes
returns-then-not-announces-clause-routes c =
    let none : route_count c.args.cells.now.entries c.args.peer ≡ 0 = omega (arith, c.requires.count, c.if-count-eq0.true) in
    let no_route : announces (change_of c.args.word) ≡ false = search rules in
    nothing-changes c.args.cells.now.entries c.args.peer none (change_of c.args.word) no_route

pub returns-clause-count : goal.returns-clause-count
returns-clause-count c =
    c.count_after-count.ensures
    ∙ sym (ap fin.len (routes-own c.args.cells.now.entries c.change.new.cells.entries c.args.peer (change_of c.args.word)
    c.in_ok-change.ensures.routes))
