use Rattle.std.proofs.Common.{refl, ap, arith, length}
use Rattle.std.proofs.lemmas.List.{length-map}
use Rattle.rs_table.specs.Cell.{routes_in}
use Rattle.rs_choice.specs.Held.{sent_of_held}
use Rattle.rs_table.proofs.cell.MemberLemmas.{with-some}
use Rattle.rs_table.proofs.cell.Cell.announce.Goals as goal

pub put-requires-clause-cell : goal.put-requires-clause-cell
put-requires-clause-cell c =
    record { held = c.requires.cell.is_cell.held; count = c.requires.cell.is_cell.count; room = c.requires.cell.room refl }

pub decide-requires-clause-some : goal.decide-requires-clause-some
decide-requires-clause-some c =
    omega (
      arith,
      with-some (λ one. one.peer) (routes_in c.args.self.now) (sent_of_held c.args.route),
      ap length c.put.ensures.routes,
      length-map c.put.new.self.held sent_of_held,
    )

pub returns-clause-cell : goal.returns-clause-cell
returns-clause-cell c =
    record { is_cell = c.decide.ensures.cell; room = λ keeps. omega (arith, c.put.ensures.cell.room, c.decide.ensures.room) }
